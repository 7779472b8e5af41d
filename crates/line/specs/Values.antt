-- The six-bit values, as plain numbers. Assumes nothing.
use Rattle.std.specs.Prelude.{ℕ, cond, List, map, Some, None, Option, nat_lt}
use Rattle.line.specs.declared.six_bit.SixBit.{SixBit}

abbrev pub number_of : SixBit → ℕ
number_of v = v.number

abbrev pub numbers : List SixBit → List ℕ
numbers vs = map number_of vs

-- a number that fits six bits, or none
abbrev pub six_bit_of : ℕ → Option ℕ
six_bit_of n = cond (nat_lt n 64) (Some n) None
