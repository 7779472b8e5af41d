-- Numbers read from values one by one, and written one by one. Assumes nothing.
use Rattle.std.proofs.Common.{◌≡◌, ℕ, suc, ◌+◌, ◌-◌, ◌/◌, ◌%◌, ◌^◌, ◌<◌, ◌≤◌, List, [], ◌∷◌, ◌++◌, length, take, drop, set, sym, refl, ap, ◌∙◌, subst, arith, pow-suc, length-set}
use native.Mathlib.Nat.{div-div-eq-div-mul}
use borrow.Rule.Slice.PartMut.{put_mid}
use Rattle.std.proofs.lemmas.List.{map-append, map-set, take_all, drop-set, length-map, length-take, length-take-le, length-drop, length-append}
use Rattle.std.proofs.lemmas.Slice.{take-put_mid}
use Rattle.std.proofs.lemmas.Int.Digits.{number_lt}
use Rattle.std.specs.Int.Digits.{number_from_digits, AllBelowBase}
use Rattle.arithmetic.specs.Digits.{digits}
use Rattle.arithmetic.proofs.Bases.{length_digits}
use Rattle.line.specs.declared.six_bit.SixBit.{SixBit}
use Rattle.line.specs.Values.{number_of, numbers}

pub numbers-under : (vs : List SixBit) → AllBelowBase 64 (numbers vs)
numbers-under [] = tt
numbers-under (v ∷ vs) = (v.small, numbers-under vs)

pub number-below : (vs : List SixBit) → number_from_digits 64 (numbers vs) < 64 ^ length vs
number-below vs = subst (λ (n : ℕ). number_from_digits 64 (numbers vs) < 64 ^ n) (length-map vs number_of) (number_lt 64 (numbers vs) (numbers-under vs))

-- the digits of a number from the lowest on, of which `high` is what is left to write
pub record Written (number : ℕ) (vs : List SixBit) (i high : ℕ) : Type 0 where
  pub behind : drop i (numbers vs) ≡ digits 64 (length vs - i) number
  pub left : high ≡ number / 64 ^ (length vs - i)

-- one more value written in front of the others
pub digits-more : (n : ℕ) (vs : List SixBit) (v : SixBit) (i high : ℕ) → 0 < i → i ≤ length vs → number_of v ≡ high % 64 → Written n vs i high → Written n (set vs (i - 1) v) (i - 1) (high / 64)
digits-more n vs v i high pos h ev w =
    let more : length vs - (i - 1) ≡ suc (length vs - i) = omega arith in
    let long : length (set vs (i - 1) v) ≡ length vs = length-set vs (i - 1) v in
    let next : i - 1 + 1 ≡ i = omega arith in
    let at : i - 1 < length (numbers vs) = rw length-map (omega arith) in
    record {
      behind =
          rw (long, more)
          (ap (drop (i - 1)) (map-set number_of vs (i - 1) v)
          ∙ drop-set (numbers vs) (i - 1) (number_of v) at
          ∙ ap (λ j. number_of v ∷ drop j (numbers vs)) next
          ∙ ap (λ ns. number_of v ∷ ns) w.behind
          ∙ ap (λ x. x ∷ digits 64 (length vs - i) n) (ev ∙ ap (λ x. x % 64) w.left));
      left = rw (long, more) (ap (λ x. x / 64) w.left ∙ div-div-eq-div-mul n (64 ^ (length vs - i)) 64 ∙ ap (λ x. n / x) (sym (pow-suc 64 (length vs - i))));
    }

-- of m values those up to a place are written
pub record WrittenTo (m : ℕ) (vs : List SixBit) (place : ℕ) (ds : List ℕ) : Type 0 where
  pub long : length vs ≡ m
  pub front : numbers (take place vs) ≡ ds

pub written-none : (m : ℕ) (vs : List SixBit) → length vs ≡ m → WrittenTo m vs 0 []
written-none m vs long = record { long = long; front = refl }

-- one more field written behind them
pub field-written : (m : ℕ) (vs ws : List SixBit) (place count n : ℕ) (ds : List ℕ) → place + count ≤ m → numbers ws ≡ digits 64 (length (take count (drop place vs))) n
    → WrittenTo m vs place ds → WrittenTo m (put_mid place count vs ws) (place + count) (ds ++ digits 64 count n)
field-written m vs ws place count n ds h e w =
    let part : length (take count (drop place vs)) ≡ count = length-take-le count (drop place vs) (rw length-drop (omega (arith, w.long))) in
    let same : numbers ws ≡ digits 64 count n = e ∙ ap (λ k. digits 64 k n) part in
    let long : length ws ≡ count = sym (length-map ws number_of) ∙ ap length same ∙ length_digits 64 count n in
    record {
      long = simp (length-append, length-take, length-drop) (omega (arith, w.long));
      front = ap numbers (take-put_mid place count vs ws (place + count) (omega arith) (omega (arith, w.long))) ∙ map-append number_of (take place vs) ws ∙ cc (w.front, same);
    }

pub written-all : (m : ℕ) (vs : List SixBit) (ds : List ℕ) → WrittenTo m vs m ds → numbers vs ≡ ds
written-all m vs ds w = ap numbers (sym (take_all m vs (omega (arith, w.long)))) ∙ w.front
