-- XTEA's half rounds as folds over their numbers. Assumes nothing.
use Rattle.std.specs.Prelude.{◌≡◌, ℕ, zero, suc, ◌+◌, List, [], ◌∷◌, fold, refl}
use Rattle.std.specs.List.{range_with_len}
use Rattle.std.specs.declared.ops.Range.{Range}
use Rattle.std.specs.declared.iter.Rev.{Rev}
use Rattle.std.specs.Iterator.{AlwaysYields}
use Rattle.std.specs.Iterator.Adapters.{rev_source, rev_steps}
use Rattle.std.proofs.Common.{arith, ap, add-one}
use Rattle.std.proofs.lemmas.Iterator.{YieldsList}
use Rattle.std.proofs.iter.runs.Sources.{nat_range_steps_back}
use Rattle.seal.specs.declared.words.Words.{Words}
use Rattle.seal.specs.Xtea.{round_key, mixed, unmixed, mixed_by, unmixed_by}

-- the numbers below n, the last first
abbrev pub countdown : ℕ → List ℕ
countdown zero = []
countdown (suc n) = n ∷ countdown n

yields-countdown : (n : ℕ) (s : Rev (Range ℕ)) → (rev_source s).start ≡ 0 → (rev_source s).end ≡ n → AlwaysYields (rev_steps nat_range_steps_back) (λ i. i) s (countdown n)
yields-countdown zero s start end = λ x t h. omega arith
yields-countdown (suc n) s start end = ((λ t h. omega arith), λ x t h. (omega arith, yields-countdown n t (omega arith) (omega arith)))

-- what `(0..n).rev()` gives
pub YieldsList-from_rev_range : (n : ℕ) {s : Rev (Range ℕ)} → rev_source s ≡ record { start = 0; end = n } → YieldsList (rev_steps nat_range_steps_back) (λ i. i) s (countdown n)
YieldsList-from_rev_range n {s} e = record { runs = yields-countdown n s (ap (λ (r : Range ℕ). r.start) e) (ap (λ (r : Range ℕ). r.end) e) }

module _ (key : List ℕ) where
  -- n half rounds from number i on
  pub fold-mixed : (i n j : ℕ) (words : Words) → i + n ≡ j → fold (λ w k. mixed (round_key key k) w) (mixed_by key i words) (range_with_len i n) ≡ mixed_by key j words
  unfolding mixed_by
  fold-mixed i zero j words e = let same : i ≡ j = omega arith in ap (λ k. mixed_by key k words) same
  fold-mixed i (suc n) j words e = rw add-one (fold-mixed (suc i) n j words (omega arith))

  pub fold-unmixed : (n : ℕ) (words : Words) → fold (λ w i. unmixed (round_key key i) w) words (countdown n) ≡ unmixed_by key n words
  unfolding unmixed_by
  fold-unmixed zero words = refl
  fold-unmixed (suc n) words = fold-unmixed n (unmixed (round_key key n) words)
