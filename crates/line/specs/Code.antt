-- What a line is: which byte stands for each six-bit value, and the check over a list of values. Assumes nothing.
use Rattle.std.specs.Prelude.{◌≡◌, ℕ, zero, suc, ◌<◌, cond, List, Some, None, Option, ◌==◌, ◌≢◌}
use Rattle.std.specs.Int.Digits.{AllBelowBase}

-- A line's meaning, over plain numbers.
pub record LineCode : Type 0 where
  pub symbol : ℕ → ℕ
  pub check : List ℕ → ℕ

-- All that is asked of a line: each value has a byte, different values have different ones, and the check is a value.
pub record Lawful (code : LineCode) : Type 0 where
  pub byte : (v : ℕ) → v < 64 → code.symbol v < 256
  pub distinct : (v w : ℕ) → v < 64 → w < 64 → code.symbol v ≡ code.symbol w → v ≡ w
  pub six_bits : (vs : List ℕ) → AllBelowBase 64 vs → code.check vs < 64

-- The answer to which value a byte stands for: the one whose symbol it is, and none exactly where no value has it.
abbrev pub Reads : LineCode → ℕ → Option ℕ → Type 0
Reads code b None = (v : ℕ) → v < 64 → code.symbol v ≢ b
Reads code b (Some v) = (v < 64) × (code.symbol v ≡ b)

-- The same answer, worked out: the value below n whose symbol is the byte b, or none.
unfoldable pub value_below : (ℕ → ℕ) → ℕ → ℕ → Option ℕ
value_below symbol zero b = None
value_below symbol (suc n) b = cond (symbol n == b) (Some n) (value_below symbol n b)

abbrev pub value_of : LineCode → ℕ → Option ℕ
value_of code b = value_below code.symbol 64 b
