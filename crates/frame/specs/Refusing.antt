-- Which refusal a frame gets when it is opened or built, and what a host sees of it. Assumes nothing.
use Rattle.std.specs.Prelude.{ℕ, ◌+◌, ◌*◌, ◌^◌, Bool, ◌&&◌, List, is_some, Option, ◌==◌, nat_le, nat_lt}
use Rattle.std.specs.Option.{option_map}
use Rattle.std.specs.Int.Digits.{number_from_digits}
use Rattle.refusal.specs.declared.Layer.TheVariants.{Frame as frame-layer, Body as body-layer}
use Rattle.refusal.specs.declared.Refusal.{Refusal}
use Rattle.refusal.specs.Refusals.{short_buffer}
use Rattle.refusal.specs.Outcomes.{unless, or_else}
use Rattle.wire.specs.Frames.{frame_room, values_of}
use Rattle.wire.specs.Refusing.{line_refusal, line_refused}
use Rattle.seal.specs.Code.{SealCode}
use Rattle.fields.specs.declared.header.Header.{Header}
use Rattle.fields.specs.Types.{type_of}
use Rattle.fields.specs.Layout.{header_of, body_in, blocks_in}
use Rattle.fields.specs.Bodies.{filling_of}
use Rattle.frame.specs.declared.fault.FrameFault.{FrameFault}
use Rattle.frame.specs.declared.fault.FrameFault.TheVariants.{Buffer, Line, Network, Destination, TypeOrSize, Technique, OutOfRange}
use Rattle.frame.specs.Payloads.{seal_filling}
use Rattle.frame.specs.Frames.{Wire}

-- A clear payload has room in 24 working bytes.
abbrev pub working_room : ℕ
working_room = 24

-- The type is known, and the size is that of a body of n blocks.
abbrev pub type_and_size : Header → ℕ → Bool
type_and_size header n = is_some (type_of header.frame_type) && header.size == n

-- The network ID, the destination, type and size, what stands behind the blocks: the first that is not as expected.
abbrev pub header_refusal : ℕ → ℕ → ℕ → Header → ℕ → ℕ → Option FrameFault
header_refusal network destination filling header n filled =
    or_else (unless (header.network == network) Network)
    (or_else (unless (header.destination == destination) Destination) (or_else (unless (type_and_size header n) TypeOrSize) (unless (filled == filling) Technique)))

abbrev pub frame_refusal : SealCode → ℕ → ℕ → List ℕ → Option FrameFault
frame_refusal seal network destination values =
    header_refusal network destination (seal_filling seal (blocks_in values)) (header_of values) (blocks_in values) (filling_of (blocks_in values) (number_from_digits 64 (body_in values)))

-- The line's refusals come before the frame's.
abbrev pub open_refusal : Wire → ℕ → ℕ → List ℕ → Option FrameFault
open_refusal wire network destination bytes = or_else (option_map Line (line_refusal wire.line bytes)) (frame_refusal wire.seal network destination (values_of wire.line bytes))

-- A buffer without room comes before all of them.
abbrev pub room_refusal : ℕ → ℕ → Option FrameFault → Option FrameFault
room_refusal least room later = or_else (unless (nat_le least room) (Buffer (record {}))) later

-- the numbers of a header fit the bits that they have in a frame: 12 for a device ID, 36 for a network ID
abbrev pub header_fits : Header → Bool
header_fits header = nat_lt header.repeater 4096 && (nat_lt header.destination 4096 && (nat_lt header.network (2 ^ 36) && nat_lt header.source 4096))

-- The type is known, the size is 1 to 3, and a payload of so many bytes with one for byte 0 is that of the size.
abbrev pub buildable : Header → ℕ → Bool
buildable header count = is_some (type_of header.frame_type) && (nat_le 1 header.size && (nat_le header.size 3 && count + 1 == 8 * header.size))

abbrev pub build_refusal : ℕ → Header → ℕ → Option FrameFault
build_refusal room header count = room_refusal frame_room room (or_else (unless (buildable header count) TypeOrSize) (unless (header_fits header) OutOfRange))

-- 1, Call; 2 to 4, Line; 5 to 8, Frame; 11, Body
abbrev pub frame_refused : FrameFault → Refusal
frame_refused (Buffer fault) = short_buffer
frame_refused (Line fault) = line_refused fault
frame_refused Network = record { number = 5; layer = frame-layer; place = 0 }
frame_refused Destination = record { number = 6; layer = frame-layer; place = 0 }
frame_refused TypeOrSize = record { number = 7; layer = frame-layer; place = 0 }
frame_refused Technique = record { number = 8; layer = frame-layer; place = 0 }
frame_refused OutOfRange = record { number = 11; layer = body-layer; place = 0 }
