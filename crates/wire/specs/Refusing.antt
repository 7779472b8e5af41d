-- Which refusal a frame gets, and what a host sees of it. Assumes nothing.
use Rattle.std.specs.Prelude.{ℕ, List, length, Option, nat_le}
use Rattle.std.specs.Option.{option_map}
use Rattle.refusal.specs.declared.Layer.TheVariants.{Line as line-layer}
use Rattle.refusal.specs.declared.Refusal.{Refusal}
use Rattle.refusal.specs.Refusals.{short_buffer}
use Rattle.refusal.specs.Outcomes.{unless, or_else}
use Rattle.line.specs.Code.{LineCode}
use Rattle.wire.specs.declared.fault.LineFault.{LineFault}
use Rattle.wire.specs.declared.fault.LineFault.TheVariants.{Length, NoSymbol, Check}
use Rattle.wire.specs.declared.fault.CarryFault.{CarryFault}
use Rattle.wire.specs.declared.fault.CarryFault.TheVariants.{Buffer, Line}
use Rattle.wire.specs.Frames.{frame_room, frame_length, first_no_symbol, values_of, check_holds, symbols_of}

-- The length, a byte that is no symbol, the check: the first that applies.
abbrev pub line_refusal : LineCode → List ℕ → Option LineFault
line_refusal code bytes =
    or_else (unless (frame_length (length bytes)) Length)
    (or_else (option_map NoSymbol (first_no_symbol code 0 bytes)) (unless (check_holds code (values_of code bytes)) Check))

-- A buffer without room for a frame comes before all of these.
abbrev pub carry_refusal : LineCode → ℕ → List ℕ → Option CarryFault
carry_refusal code room bytes = or_else (unless (nat_le frame_room room) (Buffer (record {}))) (option_map Line (line_refusal code bytes))

-- the bytes of the same frame on another line
abbrev pub carried : LineCode → LineCode → List ℕ → List ℕ
carried from to bytes = symbols_of to (values_of from bytes)

-- 2, 3 and 4, Line; the place is the index of the first byte that is no symbol, and otherwise 0
abbrev pub line_refused : LineFault → Refusal
line_refused Length = record { number = 2; layer = line-layer; place = 0 }
line_refused (NoSymbol place) = record { number = 3; layer = line-layer; place = place }
line_refused Check = record { number = 4; layer = line-layer; place = 0 }

abbrev pub carry_refused : CarryFault → Refusal
carry_refused (Buffer fault) = short_buffer
carry_refused (Line fault) = line_refused fault
