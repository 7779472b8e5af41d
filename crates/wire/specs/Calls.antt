-- What reading, writing and carrying a frame give, and what they leave in a buffer. Assumes nothing.
use Rattle.std.specs.Prelude.{◌≡◌, ℕ, ◌<◌, ◌≤◌, List, ◌++◌, length, take, drop, Some, None, Ok, Err, Result}
use Rattle.refusal.specs.declared.ShortBuffer.{ShortBuffer}
use Rattle.refusal.specs.Outcomes.{unless, Outcome}
use Rattle.line.specs.declared.six_bit.SixBit.{SixBit}
use Rattle.line.specs.Values.{numbers}
use Rattle.line.specs.Code.{LineCode}
use Rattle.wire.specs.declared.fault.LineFault.{LineFault}
use Rattle.wire.specs.declared.fault.LineFault.TheVariants.{Length}
use Rattle.wire.specs.declared.fault.CarryFault.{CarryFault}
use Rattle.wire.specs.declared.frame_values.FrameValues.{FrameValues}
use Rattle.wire.specs.Frames.{frame_room, frame_length, values_of, symbols_of}
use Rattle.wire.specs.Values.{values_in}
use Rattle.wire.specs.Refusing.{line_refusal, carry_refusal, carried}

-- Reading gives the values of a frame's bytes, or the first fault that applies.
abbrev pub Read : LineCode → List ℕ → Result FrameValues LineFault → Type 0
Read code bytes = Outcome (line_refusal code bytes) (λ frame. values_in frame ≡ values_of code bytes)

-- A list is the values of a frame, or it is refused for their number.
abbrev pub IsFrame : List SixBit → Result FrameValues LineFault → Type 0
IsFrame values = Outcome (unless (frame_length (length values)) Length) (λ frame. values_in frame ≡ numbers values)

-- Writing puts a frame's bytes at the front of a buffer and leaves what is behind them; one without room stays as it was.
abbrev pub Written : LineCode → List ℕ → List ℕ → List ℕ → Result ℕ ShortBuffer → Type 0
Written code values before after (Ok count) = (frame_room ≤ length before) × (count ≡ length values) × (after ≡ symbols_of code values ++ drop count before)
Written code values before after (Err fault) = (length before < frame_room) × (after ≡ before)

-- Carrying does the same with the bytes of a frame on another line, or tells the first fault that applies.
abbrev pub Carried : LineCode → LineCode → List ℕ → List ℕ → List ℕ → Result ℕ CarryFault → Type 0
Carried from to frame before after (Ok count) =
    (carry_refusal from (length before) frame ≡ None) × (count ≡ length frame) × (after ≡ carried from to frame ++ drop count before)
Carried from to frame before after (Err fault) = (carry_refusal from (length before) frame ≡ Some fault) × (after ≡ before)

-- What was carried is a frame on the other line, and carried back it is the same bytes.
abbrev pub CarriesBack : LineCode → LineCode → List ℕ → List ℕ → Result ℕ CarryFault → Type 0
CarriesBack from to frame after (Ok count) = (line_refusal to (take count after) ≡ None) × (carried to from (take count after) ≡ frame)
CarriesBack from to frame after (Err fault) = Unit {0}
