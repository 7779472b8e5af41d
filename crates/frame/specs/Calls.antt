-- What opening and building a frame answer, and what they leave in a buffer. Assumes nothing.
use Rattle.std.specs.Prelude.{◌≡◌, ℕ, ◌+◌, ◌-◌, ◌*◌, ◌≤◌, true, cond, List, ◌++◌, length, take, drop, replicate, is_some, Some, None, Ok, Err, Result, nat_le}
use Rattle.wire.specs.Frames.{frame_room}
use Rattle.fields.specs.declared.header.Header.{Header}
use Rattle.fields.specs.Types.{type_of}
use Rattle.frame.specs.declared.fault.FrameFault.{FrameFault}
use Rattle.frame.specs.Payloads.{with_check_byte}
use Rattle.frame.specs.Frames.{Wire, Fields, fields_of, bytes_of}
use Rattle.frame.specs.Refusing.{working_room, open_refusal, room_refusal, build_refusal}

-- 24 working bytes with a payload in front and zeros behind it
abbrev pub filled : List ℕ → List ℕ
filled payload = payload ++ replicate (working_room - length payload) 0

-- What an opening answers and leaves in just 24 working bytes: after a refusal they are zero.
abbrev pub OpenedInto : Wire → ℕ → ℕ → List ℕ → List ℕ → Result Header FrameFault → Type 0
OpenedInto wire network destination bytes after (Ok header) =
    (open_refusal wire network destination bytes ≡ None) × (header ≡ (fields_of wire bytes).header) × (after ≡ filled (fields_of wire bytes).payload)
OpenedInto wire network destination bytes after (Err fault) = (open_refusal wire network destination bytes ≡ Some fault) × (after ≡ replicate working_room 0)

-- The same of any working bytes: what stands behind the 24 stays.
abbrev pub holding : List ℕ → List ℕ → List ℕ
holding payload before = filled payload ++ drop working_room before

-- A buffer without room is not touched; else a refusal leaves the 24 working bytes zero.
abbrev pub cleared : List ℕ → List ℕ
cleared before = cond (nat_le working_room (length before)) (replicate working_room 0 ++ drop working_room before) before

-- Opening answers the header and leaves the clear payload, or tells the first fault that applies.
abbrev pub Opened : Wire → ℕ → ℕ → List ℕ → List ℕ → List ℕ → Result Header FrameFault → Type 0
Opened wire network destination bytes before after (Ok header) =
    (room_refusal working_room (length before) (open_refusal wire network destination bytes) ≡ None) × (header ≡ (fields_of wire bytes).header) × (after ≡ holding (fields_of wire bytes).payload before)
Opened wire network destination bytes before after (Err fault) =
    (room_refusal working_room (length before) (open_refusal wire network destination bytes) ≡ Some fault) × (after ≡ cleared before)

-- the fields of a frame with this header and, behind its byte 0, this payload
abbrev pub fields_with : Header → List ℕ → Fields
fields_with header behind = record { header = header; payload = with_check_byte behind }

-- What opens has a known type and one to three blocks, and its payload eight bytes for each of them.
abbrev pub WellFormed : Wire → List ℕ → Result Header FrameFault → Type 0
WellFormed wire bytes (Ok header) =
    (is_some (type_of header.frame_type) ≡ true) × (1 ≤ header.size) × (header.size ≤ 3) × (length (fields_of wire bytes).payload ≡ 8 * header.size)
WellFormed wire bytes (Err fault) = Unit {0}

-- What opens is the run of bytes of its fields, and so no other run opens to them, for whatever network and destination.
abbrev pub OpensAlone : Wire → List ℕ → Result Header FrameFault → Type 0
OpensAlone wire bytes (Ok header) =
    (bytes_of wire (fields_of wire bytes) ≡ bytes) × ((network destination : ℕ) (other : List ℕ) → open_refusal wire network destination other ≡ None → fields_of wire other ≡ fields_of wire bytes → other ≡ bytes)
OpensAlone wire bytes (Err fault) = Unit {0}

-- From what opened, its payload handed in without byte 0, building is not refused where there is room; and where byte 0 is
-- right, it gives the very bytes.
abbrev pub BuildsAgain : Wire → List ℕ → Result Header FrameFault → Type 0
BuildsAgain wire bytes (Ok header) =
    let behind = drop 1 (fields_of wire bytes).payload in
    ((room : ℕ) → frame_room ≤ room → build_refusal room header (length behind) ≡ None) × (with_check_byte behind ≡ (fields_of wire bytes).payload → bytes_of wire (fields_with header behind) ≡ bytes)
BuildsAgain wire bytes (Err fault) = Unit {0}

-- Building puts the run of bytes of these fields at the front of a buffer, or tells the first fault that applies.
abbrev pub Built : Wire → Header → List ℕ → List ℕ → List ℕ → Result ℕ FrameFault → Type 0
Built wire header behind before after (Ok count) =
    (build_refusal (length before) header (length behind) ≡ None) × (count ≡ 15 + 11 * header.size) × (after ≡ bytes_of wire (fields_with header behind) ++ drop count before)
Built wire header behind before after (Err fault) = (build_refusal (length before) header (length behind) ≡ Some fault) × (after ≡ before)

-- What was built opens to its fields.
abbrev pub OpensAgain : Wire → Header → List ℕ → List ℕ → Result ℕ FrameFault → Type 0
OpensAgain wire header behind after (Ok count) =
    (open_refusal wire header.network header.destination (take count after) ≡ None) × (fields_of wire (take count after) ≡ fields_with header behind)
OpensAgain wire header behind after (Err fault) = Unit {0}

-- Any run of bytes that opens to these fields is the one that was built.
abbrev pub BuiltAlone : Wire → Header → List ℕ → List ℕ → Result ℕ FrameFault → Type 0
BuiltAlone wire header behind after (Ok count) =
    (network destination : ℕ) (bytes : List ℕ) → open_refusal wire network destination bytes ≡ None → fields_of wire bytes ≡ fields_with header behind → take count after ≡ bytes
BuiltAlone wire header behind after (Err fault) = Unit {0}
