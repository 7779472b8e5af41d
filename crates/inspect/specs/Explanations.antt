-- What is printed for a frame: its fields and its clear payload, or why it is refused. Assumes nothing.
use Rattle.std.specs.Prelude.{ℕ, ◌+◌, ◌*◌, ◌/◌, ◌%◌, Bool, true, false, List, ◌∷◌, ◌++◌, drop, Some, None, codes, Option, ◌==◌, slice_index}
use Rattle.std.specs.List.{flat_map}
use Rattle.text.specs.Hexadecimal.{hex}
use Rattle.refusal.specs.Refusals.{text_of}
use Rattle.refusal.specs.Words.{layer_name}
use Rattle.line.specs.Cable.{cable}
use Rattle.seal.specs.Plain.{plain}
use Rattle.fields.specs.declared.frame_type.FrameType.{FrameType}
use Rattle.fields.specs.declared.header.Header.{Header}
use Rattle.fields.specs.Types.{type_of}
use Rattle.fields.specs.Words.{frame_type_name}
use Rattle.frame.specs.declared.fault.FrameFault.{FrameFault}
use Rattle.frame.specs.Payloads.{check_byte}
use Rattle.frame.specs.Frames.{Wire, wire_of, Fields, fields_of}
use Rattle.frame.specs.Refusing.{open_refusal, frame_refused}
use Rattle.frame.specs.Words.{words}

abbrev pub type_name : Option FrameType → List ℕ
type_name None = codes "unknown"
type_name (Some frame_type) = frame_type_name frame_type

-- who sends what to whom
abbrev pub header_line : Header → List ℕ
header_line header =
    type_name (type_of header.frame_type)
    ++ codes " frame of size "
    ++ hex 1 header.size
    ++ codes " from 0x"
    ++ hex 3 header.source
    ++ codes " to 0x"
    ++ hex 3 header.destination
    ++ codes ", network 0x"
    ++ hex 9 header.network
    ++ codes ", repeater 0x"
    ++ hex 3 header.repeater
    ++ codes "\n"

-- Bytes 1 and 2 are the message ID of 12 bits and the kind of 4 bits.
abbrev pub message_id : List ℕ → ℕ
message_id payload = slice_index payload 1 * 16 + slice_index payload 2 / 16

abbrev pub kind_of : List ℕ → ℕ
kind_of payload = slice_index payload 2 % 16

abbrev pub content_line : List ℕ → List ℕ
content_line payload =
    codes "  message ID 0x"
    ++ hex 3 (message_id payload)
    ++ codes ", kind 0x"
    ++ hex 1 (kind_of payload)
    ++ codes ", content"
    ++ flat_map (λ b. 0x20 ∷ hex 2 b) (drop 3 payload)
    ++ codes "\n"

-- whether byte 0 is the remainder of the bytes behind it
abbrev pub verdict : Bool → ℕ → List ℕ
verdict true right = codes ", as it should be\n"
verdict false right = codes ", but should be 0x" ++ hex 2 right ++ codes "\n"

abbrev pub check_line : List ℕ → List ℕ
check_line payload = codes "  byte 0 is 0x" ++ hex 2 (slice_index payload 0) ++ verdict (slice_index payload 0 == check_byte (drop 1 payload)) (check_byte (drop 1 payload))

abbrev pub explained : Fields → List ℕ
explained fields = header_line fields.header ++ content_line fields.payload ++ check_line fields.payload

abbrev pub refused_line : FrameFault → List ℕ
refused_line fault = text_of (frame_refused fault) ++ codes ", " ++ layer_name (frame_refused fault).layer ++ codes ": " ++ words fault ++ codes "\n"

-- the cable with the plain seal
abbrev pub plain_cable : Wire
plain_cable = wire_of cable plain

abbrev pub explained_by : Option FrameFault → List ℕ → List ℕ
explained_by None frame = explained (fields_of plain_cable frame)
explained_by (Some fault) frame = refused_line fault

abbrev pub explanation : ℕ → ℕ → List ℕ → List ℕ
explanation network destination frame = explained_by (open_refusal plain_cable network destination frame) frame
