-- Which value a byte stands for, on any lawful line. Assumes nothing.
use Rattle.std.specs.Prelude.{◌≡◌, ℕ, zero, suc, ◌<◌, Some, None, Option, ◌==◌, ◌≢◌, refl}
use Rattle.std.proofs.Common.{ap, sym, ◌∙◌}
use Rattle.std.proofs.Math.Path.{subst}
use native.Mathlib.Omega.{arith}
use Rattle.std.proofs.lemmas.Bool.{cond_both, eqb-true, eqb-false}
use Rattle.line.specs.Code.{LineCode, Lawful, Reads, value_below, value_of}

module _ (symbol : ℕ → ℕ) (b : ℕ) where
  -- what the search below n finds
  Found : ℕ → Option ℕ → Type 0
  Found n None = (v : ℕ) → v < n → symbol v ≢ b
  Found n (Some v) = (v < n) × (symbol v ≡ b)

  found-more : (n : ℕ) → (symbol n ≢ b) → (o : Option ℕ) → Found n o → Found (suc n) o
  unfolding Found
  found-more n ne None f = λ v h e. grind (arith, f v)
  found-more n ne (Some v) f = (omega (arith, f.0), f.1)

  found : (n : ℕ) → Found n (value_below symbol n b)
  unfolding value_below Found
  found zero = λ v h e. omega arith
  found (suc n) =
      cond_both (symbol n == b) (Some n) (value_below symbol n b) (Found (suc n))
      (λ e. (omega arith, eqb-true (symbol n) b e))
      (λ e. found-more n (eqb-false (symbol n) b e) (value_below symbol n b) (found n))

module _ (code : LineCode) where
  -- what the search gives is an answer
  pub searched : (b : ℕ) (o : Option ℕ) → o ≡ value_of code b → Reads code b o
  unfolding Found
  searched b None e = subst (Found code.symbol b 64) (sym e) (found code.symbol b 64)
  searched b (Some v) e = subst (Found code.symbol b 64) (sym e) (found code.symbol b 64)

  module _ (lawful : Lawful code) where
    -- and on a lawful line the only one
    one_answer : (b : ℕ) (o p : Option ℕ) → Reads code b o → Reads code b p → o ≡ p
    one_answer b None None r s = refl
    one_answer b None (Some w) r s = absurd (r w s.0 s.1)
    one_answer b (Some v) None r s = absurd (s v r.0 r.1)
    one_answer b (Some v) (Some w) r s = ap (λ n. Some n) (lawful.distinct v w r.0 s.0 (r.1 ∙ sym s.1))

    pub read-value : (b : ℕ) (o : Option ℕ) → Reads code b o → o ≡ value_of code b
    read-value b o r = one_answer b o (value_of code b) r (searched b (value_of code b) refl)

    pub symbol-value : (v : ℕ) → v < 64 → value_of code (code.symbol v) ≡ Some v
    symbol-value v h = sym (read-value (code.symbol v) (Some v) (h, refl))

  pub value-small : (b v : ℕ) → value_of code b ≡ Some v → v < 64
  value-small b v e = (searched b (Some v) (sym e)).0

  pub value-symbol : (b v : ℕ) → value_of code b ≡ Some v → code.symbol v ≡ b
  value-symbol b v e = (searched b (Some v) (sym e)).1
