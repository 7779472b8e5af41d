-- The bits that are still to come of a number. Assumes nothing.
use Rattle.std.specs.Prelude.{ℕ, List}
use Rattle.arithmetic.specs.declared.bits.Bits.{Bits}
use Rattle.arithmetic.specs.Digits.{digits}

abbrev pub bits_left : Bits → List ℕ
bits_left bits = digits 2 bits.left bits.number
