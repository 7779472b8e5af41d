-- Where the fields of a frame stand among its values. Assumes nothing.
use Rattle.std.specs.Prelude.{ℕ, ◌-◌, ◌*◌, ◌/◌, List, ◌∷◌, ◌++◌, length, take, drop}
use Rattle.std.specs.Int.Digits.{number_from_digits}
use Rattle.arithmetic.specs.Digits.{digits}
use Rattle.fields.specs.declared.header.Header.{Header}

-- the number that `count` values write from a place on, high value first
abbrev pub field : ℕ → ℕ → List ℕ → ℕ
field place count values = number_from_digits 64 (take count (drop place values))

-- Two values for a device ID, six for the network ID, one for type and size; the check stands at place 2.
abbrev pub header_of : List ℕ → Header
header_of values = record {
  repeater = field 0 2 values;
  destination = field 3 2 values;
  network = field 5 6 values;
  source = field 11 2 values;
  frame_type = field 13 1 values;
  size = field 14 1 values;
}

-- the values of a header; the check's is 0 and not told by it
unfoldable pub header_values : Header → List ℕ
header_values h =
    digits 64 2 h.repeater
    ++ (0 ∷ digits 64 2 h.destination ++ (digits 64 6 h.network ++ (digits 64 2 h.source ++ (digits 64 1 h.frame_type ++ digits 64 1 h.size))))

-- The body stands behind fifteen values and has eleven for each block.
abbrev pub body_in : List ℕ → List ℕ
body_in values = drop 15 values

abbrev pub blocks_in : List ℕ → ℕ
blocks_in values = (length values - 15) / 11

-- the values of a header and of a body of n blocks that is this number
abbrev pub frame_of : Header → ℕ → ℕ → List ℕ
frame_of header n body = header_values header ++ digits 64 (11 * n) body
