-- A number taken for a six-bit value. Assumes nothing.
use Rattle.std.specs.Prelude.{◌≡◌, ℕ, Some, None, Ok, Err, Result}
use Rattle.line.specs.declared.six_bit.SixBit.{SixBit}
use Rattle.line.specs.declared.too_large.TooLarge.{TooLarge}
use Rattle.line.specs.Values.{number_of, six_bit_of}

-- The value of this number, and otherwise the number that is too large for one.
abbrev pub IsSixBit : ℕ → Result SixBit TooLarge → Type 0
IsSixBit n (Ok value) = six_bit_of n ≡ Some (number_of value)
IsSixBit n (Err refused) = (six_bit_of n ≡ None) × (refused.0 ≡ n)
