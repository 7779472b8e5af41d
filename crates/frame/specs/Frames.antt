-- What a frame's bytes say, and which bytes say it, on a line and with a seal. Assumes nothing.
use Rattle.std.specs.Prelude.{ℕ, List}
use Rattle.std.specs.Int.Digits.{number_from_digits}
use Rattle.line.specs.Code.{LineCode}
use Rattle.wire.specs.Frames.{values_of, symbols_of}
use Rattle.seal.specs.Code.{SealCode}
use Rattle.fields.specs.declared.header.Header.{Header}
use Rattle.fields.specs.Layout.{header_of, body_in, blocks_in, frame_of}
use Rattle.fields.specs.Bodies.{body_number, closed_blocks}
use Rattle.frame.specs.declared.line_and_seal.Wire.{Wire as LineAndSeal}
use Rattle.frame.specs.Payloads.{closed_from, opened_from, seal_filling}

-- a line's and a seal's meaning
pub record Wire : Type 0 where
  pub line : LineCode
  pub seal : SealCode

abbrev pub wire_of : LineCode → SealCode → Wire
wire_of line seal = record { line = line; seal = seal }

-- what a line and a seal that go together mean, each by its own code
abbrev pub wire_over : {L S : Type 0} → (L → LineCode) → (S → SealCode) → LineAndSeal L S → Wire
wire_over line seal pair = wire_of (line pair.line.now) (seal pair.seal.now)

-- a header and the whole clear payload, byte 0 included
pub record Fields : Type 0 where
  pub header : Header
  pub payload : List ℕ

-- the clear payload that values carry, of as many blocks as their number tells
abbrev pub payload_of : SealCode → List ℕ → List ℕ
payload_of seal values = opened_from seal (blocks_in values) (closed_blocks (blocks_in values) (number_from_digits 64 (body_in values)))

-- what a run of bytes says
abbrev pub fields_of : Wire → List ℕ → Fields
fields_of wire bytes = record { header = header_of (values_of wire.line bytes); payload = payload_of wire.seal (values_of wire.line bytes) }

-- the number of a body of n blocks: the closed blocks, the technique and the zero bits
abbrev pub sealed_body : SealCode → ℕ → List ℕ → ℕ
sealed_body seal n payload = body_number n (closed_from seal n payload) (seal_filling seal n)

-- the run of bytes that says it
abbrev pub bytes_of : Wire → Fields → List ℕ
bytes_of wire fields = symbols_of wire.line (frame_of fields.header fields.header.size (sealed_body wire.seal fields.header.size fields.payload))
