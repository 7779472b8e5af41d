-- The digits of a number, each from the place that it has. Assumes nothing.
use Rattle.std.proofs.Common.{◌≡◌, ℕ, zero, suc, ◌+◌, ◌-◌, ◌*◌, ◌/◌, ◌%◌, ◌^◌, ◌<◌, ◌≤◌, List, [], ◌∷◌, ◌++◌, map, get_or, sym, refl, ap, ◌∙◌, add-one, arith, length, drop, set, take, inl, inr}
use Rattle.std.proofs.Math.Nat.{pow-le-pow_right, div-eq_of_lt}
use Rattle.std.proofs.lemmas.List.{drop-set, drop_all, take_all, take_more, drop_more, length-map}
use Rattle.std.proofs.lemmas.Bool.{cases_lt}
use Rattle.arithmetic.proofs.Bases.{pow-mul, length_digits}
use Rattle.std.proofs.lemmas.List.FromFn.{get_or-map-range_with_len}
use Rattle.std.specs.List.{range_with_len}
use Rattle.std.specs.Prelude.{slice_range, codes}
use Rattle.std.specs.declared.fmt.Formatter.{Formatter}
use Rattle.std.specs.Fmt.{HasWritten}
use Rattle.std.proofs.Output.{has_written_append, has_written_of_eq}
use Rattle.text.specs.Hexadecimal.{hex_digit, hex}

-- Four bits are a digit.
pub shifted : (n place rest : ℕ) → rest ≡ n / 2 ^ (4 * place) → rest ≡ n / 16 ^ place
shifted n place rest e = rw (pow-mul 2 4 place) at e

-- A number of 64 bits has no digit past the sixteenth.
pub none-past : (n place : ℕ) → n < 2 ^ 64 → 16 ≤ place → n / 16 ^ place ≡ 0
none-past n place h far = let most = pow-le-pow_right {n = 16} (omega arith) far in div-eq_of_lt (omega (arith, most))

one-from : (xs : List ℕ) (i : ℕ) → i < length xs → take 1 (drop i xs) ≡ get_or xs i 0 ∷ []
one-from xs i here = rw (drop_more xs i 0 here)

-- the digit of a value stands at its index among all sixteen
pub digit-of : (value : ℕ) → value < 16 → slice_range (codes "0123456789ABCDEF") value (value + 1) ≡ hex_digit value ∷ []
digit-of value few =
    let all : codes "0123456789ABCDEF" ≡ map hex_digit (range_with_len 0 16) = refl in
    let here : value < length (codes "0123456789ABCDEF") = omega arith in
    let one : value + 1 - value ≡ 1 = omega arith in
    rw one (one-from (codes "0123456789ABCDEF") value here ∙ ap (λ ds. get_or ds value 0 ∷ []) all ∙ ap (λ character. character ∷ []) (get_or-map-range_with_len hex_digit 0 16 value value 0 few (omega arith)))

-- one digit more is written, behind those that are yet to come
pub written-more : (width n place digit : ℕ) (text : List ℕ) → place < width → length text ≡ width → digit ≡ hex_digit (n / 16 ^ place % 16) → drop (width - place) text ≡ hex place n → drop (width - (place + 1)) (set text (width - 1 - place) digit) ≡ hex (place + 1) n
written-more width n place digit text some long d so_far =
    let at : width - (place + 1) ≡ width - 1 - place = omega arith in
    let behind : width - 1 - place + 1 ≡ width - place = omega arith in
    let here : width - 1 - place < length text = omega arith in
    rw (at, drop-set text (width - 1 - place) digit here, behind, so_far, d, add-one)

-- the last digits of the last digits
last-digits : (width place n : ℕ) → place ≤ width → drop (width - place) (hex width n) ≡ hex place n
last-digits zero place n within = let none : place ≡ 0 = omega arith in rw none (drop_all 0 (hex 0 n) (omega arith))
last-digits (suc w) place n within = elim (cases_lt w place) [
  | inl all ↦ let e : place ≡ suc w = omega arith in let whole : suc w - suc w ≡ 0 = omega arith in rw (e, whole)
  | inr some ↦ let e : suc w - place ≡ suc (w - place) = omega arith in rw e (last-digits w place n some)
]

length-hex : (width n : ℕ) → length (hex width n) ≡ width
length-hex width n = rw length-map (length_digits 16 width n)

printed-more : (width n place : ℕ) → 0 < place → place ≤ width → take (width - place) (hex width n) ++ hex_digit (n / 16 ^ (place - 1) % 16) ∷ [] ≡ take (width - (place - 1)) (hex width n)
printed-more width n place some within =
    let more : place ≡ suc (place - 1) = omega arith in
    let at : width - (place - 1) ≡ width - place + 1 = omega arith in
    let here : width - place < length (hex width n) = omega (arith, length-hex width n) in
    let rest = sym (drop_more (hex width n) (width - place) 0 here) ∙ last-digits width place n within ∙ ap (λ k. hex k n) more in
    rw (at, take_more (hex width n) (width - place) 0 here, ap (λ ds. get_or ds 0 0) rest)

module _ {W : Type 0} (took : W → List ℕ → W → Type 0) (width n place : ℕ) (start f : Formatter W) where
  -- one digit more is printed
  pub put_digit : (piece : List ℕ) (g : Formatter W) → 0 < place → place ≤ width → piece ≡ hex_digit (n / 16 ^ (place - 1) % 16) ∷ []
      → HasWritten took start (take (width - place) (hex width n)) f → HasWritten took f piece g
      → HasWritten took start (take (width - (place - 1)) (hex width n)) g
  put_digit piece g some within e so_far more =
      has_written_of_eq took _ _ _ _ (ap (λ last. take (width - place) (hex width n) ++ last) e ∙ printed-more width n place some within) (has_written_append took _ _ _ _ _ so_far more)

  pub put_digits : place ≤ 0 → HasWritten took start (take (width - place) (hex width n)) f → HasWritten took start (hex width n) f
  put_digits none so_far = let long = length-hex width n in has_written_of_eq took _ _ _ _ (take_all (width - place) (hex width n) (omega arith)) so_far

-- one digit more, in the array and in the text, and the end of the text
pub ruleset writing = (written-more, put_digit, put_digits)
