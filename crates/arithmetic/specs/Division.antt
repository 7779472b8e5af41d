-- Division of polynomials over two elements. A polynomial is a number: its bit k is the factor of x^k, and bit_xor adds.
-- Assumes nothing.
use Rattle.std.specs.Prelude.{◌≡◌, ℕ, ◌+◌, ◌*◌, ◌^◌, ◌<◌, cond, List, ◌++◌, replicate, fold, bit_xor, nat_lt}
use Rattle.std.specs.Int.Digits.{AllBelowBase}
use Rattle.arithmetic.specs.Digits.{bits_of}

-- Long division by a divisor of the degree: x, of that degree at most, less the divisor where it has that degree.
unfoldable pub reduced : ℕ → ℕ → ℕ → ℕ
reduced degree divisor x = cond (nat_lt x (2 ^ degree)) x (bit_xor x divisor)

-- What is left once the bits were brought down behind `rest`, one after the other.
abbrev pub remainder_after : ℕ → ℕ → ℕ → List ℕ → ℕ
remainder_after degree divisor rest bits = fold (λ left bit. reduced degree divisor (2 * left + bit)) rest bits

abbrev pub remainder : ℕ → ℕ → List ℕ → ℕ
remainder degree divisor bits = remainder_after degree divisor 0 bits

-- What a check divides: numbers as bits, as many each as the divisor's degree, with as many zero bits behind them.
abbrev pub check_message : ℕ → List ℕ → List ℕ
check_message degree ns = bits_of degree ns ++ replicate degree 0

abbrev pub check_of : ℕ → ℕ → List ℕ → ℕ
check_of degree divisor ns = remainder degree divisor (check_message degree ns)

-- The product of a polynomial and one that is given by its bits, high bit first.
abbrev pub product : ℕ → List ℕ → ℕ
product p bits = fold (λ sum bit. bit_xor (sum * 2) (bit * p)) 0 bits

-- Some quotient times the divisor, plus r, is the message; and r is below the divisor's degree.
pub record Leaves (degree divisor message r : ℕ) : Type 0 where
  pub quotient : List ℕ
  pub bits : AllBelowBase 2 quotient
  pub whole : message ≡ bit_xor (product divisor quotient) r
  pub below : r < 2 ^ degree

-- r is the remainder: it is left, and nothing else is.
pub record IsRemainder (degree divisor message r : ℕ) : Type 0 where
  pub leaves : Leaves degree divisor message r
  pub only : (other : ℕ) → Leaves degree divisor message other → other ≡ r
