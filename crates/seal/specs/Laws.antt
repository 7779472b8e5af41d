-- Why the two seals are lawful: half rounds of XTEA are taken back one by one, the last first. An impl names the proof of
-- its law, and of its own crate it can name only what stands in specs/: nothing here needs to be believed. Assumes nothing.
use Rattle.std.specs.Prelude.{◌≡◌, ℕ, zero, suc, ◌+◌, ◌*◌, ◌/◌, ◌%◌, ◌^◌, ◌<◌, List, bit_xor, slice_index}
use Rattle.std.proofs.Math.Path.{refl, ap}
use Rattle.std.proofs.Common.{sym, ◌∙◌, subst}
use native.Mathlib.Omega.{arith}
use Rattle.std.proofs.lemmas.Nat.{xor_lt}
use Rattle.std.proofs.lemmas.Bool.{eq-eqb, ne_eqb}
use Rattle.seal.specs.declared.words.Words.{Words}
use Rattle.seal.specs.Code.{Lawful}
use Rattle.seal.specs.Plain.{plain}
use Rattle.seal.specs.Xtea.{plus, minus, words_of, block_of, stirred, sum_after, cycled, running_sum, round_key, mixed, unmixed, mixed_by, unmixed_by, xtea}

pub plain-lawful : Lawful plain
plain-lawful = record {
  closed_block = λ block h. h;
  opened_block = λ block h. h;
  opens_closed = λ block h. refl;
  closes_opened = λ block h. refl;
  two_bits = omega arith;
}

-- both words have 32 bits
abbrev Fit : Words → Type 0
Fit words = (words.high < 2 ^ 32) × (words.low < 2 ^ 32)

-- of words that fit f makes words that fit, and g takes f back
record TakenBack (f g : Words → Words) : Type 0 where
  pub fits : (words : Words) → Fit words → Fit (f words)
  pub back : (words : Words) → Fit words → g (f words) ≡ words

nothing : TakenBack (λ words. words) (λ words. words)
nothing = record { fits = λ words fit. fit; back = λ words fit. refl }

-- what comes second is taken back first
in-turn : {f g h k : Words → Words} → TakenBack f g → TakenBack h k → TakenBack (λ words. h (f words)) (λ words. g (k words))
in-turn {f} {g} first second = record {
  fits = λ words fit. second.fits (f words) (first.fits words fit);
  back = λ words fit. ap g (second.back (f words) (first.fits words fit)) ∙ first.back words fit;
}

-- one half round, either way
module _ (k : ℕ) (small : k < 2 ^ 32) where
  added-below : (word : ℕ) → bit_xor (stirred word) k < 2 ^ 32
  added-below word = xor_lt 32 (stirred word) k (omega arith) small

  mixed-back : TakenBack (mixed k) (unmixed k)
  mixed-back = record {
    fits = λ words fit. (fit.1, omega arith);
    back = λ words fit.
        let added = bit_xor (stirred words.low) k in
        let below = added-below words.low in
        let same : minus (plus words.high added) added ≡ words.high = omega arith in
        rw same;
  }

  unmixed-back : TakenBack (unmixed k) (mixed k)
  unmixed-back = record {
    fits = λ words fit. (omega arith, fit.0);
    back = λ words fit.
        let added = bit_xor (stirred words.high) k in
        let below = added-below words.high in
        let same : plus (minus words.low added) added ≡ words.low = omega arith in
        rw same;
  }

module _ (key : List ℕ) where
  all-mixed-back : (n : ℕ) → TakenBack (mixed_by key n) (unmixed_by key n)
  unfolding mixed_by unmixed_by
  all-mixed-back zero = nothing
  all-mixed-back (suc n) = in-turn (all-mixed-back n) (mixed-back (round_key key n) (omega arith))

  all-unmixed-back : (n : ℕ) → TakenBack (unmixed_by key n) (mixed_by key n)
  unfolding mixed_by unmixed_by
  all-unmixed-back zero = nothing
  all-unmixed-back (suc n) = in-turn (unmixed-back (round_key key n) (omega arith)) (all-unmixed-back n)

-- two half rounds are a cycle
module _ (key : List ℕ) where
  sum_is : (n : ℕ) → sum_after n ≡ n * 0x9E3779B9 % 2 ^ 32
  unfolding sum_after
  sum_is zero = refl
  sum_is (suc n) = let before = sum_is n in omega arith

  running_sum-is : (i n : ℕ) → (i + 1) / 2 ≡ n → running_sum i ≡ sum_after n
  running_sum-is i n half = ap (λ m. m * 0x9E3779B9 % 2 ^ 32) half ∙ sym (sum_is n)

  first_key : (n : ℕ) → round_key key (n + n) ≡ plus (sum_after n) (slice_index key (sum_after n % 4))
  first_key n =
      let even : (n + n) % 2 ≡ 0 = omega arith in
      rw (eq-eqb ((n + n) % 2) 0 even, running_sum-is (n + n) n (omega arith))

  second_key : (n : ℕ) → round_key key (suc (n + n)) ≡ plus (sum_after (suc n)) (slice_index key (sum_after (suc n) / 2 ^ 11 % 4))
  second_key n =
      let odd : suc (n + n) % 2 ≡ 0 → ⊥ = λ e. omega arith in
      rw (ne_eqb (suc (n + n) % 2) 0 odd, running_sum-is (suc (n + n)) (suc n) (omega arith))

  pub mixed-cycles : (n : ℕ) (words : Words) → mixed_by key (n + n) words ≡ cycled key n words
  unfolding mixed_by cycled
  mixed-cycles zero words = refl
  mixed-cycles (suc n) words =
      let more : suc n + suc n ≡ suc (suc (n + n)) = omega arith in
      rw (more, mixed-cycles n words, first_key n, second_key n)

  closed-mixed : mixed_by key 64 ≡ cycled key 32
  closed-mixed i words = mixed-cycles 32 words i

  closing-back : TakenBack (cycled key 32) (unmixed_by key 64)
  closing-back = subst (λ f. TakenBack f (unmixed_by key 64)) closed-mixed (all-mixed-back key 64)

  opening-back : TakenBack (unmixed_by key 64) (cycled key 32)
  opening-back = subst (TakenBack (unmixed_by key 64)) closed-mixed (all-unmixed-back key 64)

words-again : (words : Words) → Fit words → words_of (block_of words) ≡ words
words-again words fit =
    let block = words.high * 2 ^ 32 + words.low in
    let high : block / 2 ^ 32 ≡ words.high = omega arith in
    let low : block % 2 ^ 32 ≡ words.low = omega arith in
    rw (high, low)

-- of a block's words f makes those of a block, and g those of the first block again
module _ {f g : Words → Words} (taken : TakenBack f g) (block : ℕ) (small : block < 2 ^ 64) where
  fit : Fit (words_of block)
  fit = (omega arith, omega arith)

  made-fit : Fit (f (words_of block))
  made-fit = taken.fits (words_of block) fit

  block-below : block_of (f (words_of block)) < 2 ^ 64
  block-below = omega (arith, made-fit)

  block_back : block_of (g (words_of (block_of (f (words_of block))))) ≡ block
  block_back = rw (words-again (f (words_of block)) made-fit, taken.back (words_of block) fit) (omega arith)

pub xtea-lawful : (key : List ℕ) → Lawful (xtea key)
xtea-lawful key = record {
  closed_block = block-below (closing-back key);
  opened_block = block-below (opening-back key);
  opens_closed = block_back (closing-back key);
  closes_opened = block_back (opening-back key);
  two_bits = omega arith;
}
