-- What is worked out bit by bit, over one number and over a list of them. Assumes nothing.
use Rattle.std.proofs.Common.{◌≡◌, ℕ, zero, suc, ◌+◌, ◌-◌, ◌/◌, ◌%◌, ◌^◌, ◌<◌, ◌≤◌, Some, None, Option, List, [], ◌∷◌, ◌++◌, length, get_or, drop, fold, sym, refl, append_assoc, arith}
use lib.Bits.{bit_and}
use Rattle.std.proofs.lemmas.Nat.{mod_below, and_mask}
use Rattle.std.proofs.ByRecursion.{All-append}
use Rattle.std.proofs.lemmas.List.{drop_more}
use native.Mathlib.Nat.{pow-le-pow_right, div-eq_of_lt}
use Rattle.std.specs.Option.{SomeIff, unwrap_or}
use Rattle.std.specs.Int.Digits.{AllBelowBase}
use Rattle.arithmetic.specs.Digits.{digits, bits_of}

pub bits-under : (k n : ℕ) → AllBelowBase 2 (digits 2 k n)
bits-under zero n = tt
bits-under (suc k) n = (mod_below (n / 2 ^ k) 2 (omega arith), bits-under k n)

pub bits_of-under : (k : ℕ) (ns : List ℕ) → AllBelowBase 2 (bits_of k ns)
bits_of-under k [] = tt
bits_of-under k (n ∷ ns) = All-append (λ b. b < 2) (digits 2 k n) (bits_of k ns) (bits-under k n) (bits_of-under k ns)

-- the highest of i bits, and the others
digits_step : (i n : ℕ) → 0 < i → digits 2 i n ≡ (n / 2 ^ (i - 1) % 2) ∷ digits 2 (i - 1) n
digits_step zero n h = absurd (omega arith)
digits_step (suc k) n h = let e : suc k - 1 ≡ k = omega arith in rw e

-- what a shift gives that is refused where it leaves nothing
shifted : (n k : ℕ) (moved : Option ℕ) → n < 256 → SomeIff moved (k < 8) (n / 2 ^ k) → unwrap_or moved 0 ≡ n / 2 ^ k
shifted n k None small refused =
    let wide : 2 ^ 8 ≤ 2 ^ k = pow-le-pow_right {n = 2} (omega arith) {i = 8} {j = k} (omega (arith, refused)) in
    sym (div-eq_of_lt {n = n} {m = 2 ^ k} (omega arith))
shifted n k (Some x) small given = given.1

-- the same of a byte, its highest bit as code takes it
pub byte-step : (n left next : ℕ) (moved : Option ℕ) → n < 256 → 1 ≤ left → next ≡ left - 1 → SomeIff moved (next < 8) (n / 2 ^ next)
    → digits 2 left n ≡ bit_and (unwrap_or moved 0) 1 ∷ digits 2 next n
byte-step n left next moved small some e given = rw (digits_step left n some, shifted n next moved small given, and_mask (n / 2 ^ next) 1, e)

module _ (f : ℕ → ℕ → ℕ) where
  folded-append : (a : ℕ) (xs ys : List ℕ) → fold f a (xs ++ ys) ≡ fold f (fold f a xs) ys
  folded-append a [] ys = refl
  folded-append a (x ∷ xs) ys = folded-append (f a x) xs ys

  -- one more number of a list
  pub number_more : (k : ℕ) (ns tail : List ℕ) (i a a' : ℕ) → i < length ns → a' ≡ fold f a (digits 2 k (get_or ns i 0)) → fold f a' (bits_of k (drop (i + 1) ns) ++ tail) ≡ fold f a (bits_of k (drop i ns) ++ tail)
  number_more k ns tail i a a' h e =
      rw (drop_more ns i 0, append_assoc, e) (sym (folded-append a (digits 2 k (get_or ns i 0)) (bits_of k (drop (i + 1) ns) ++ tail)))
