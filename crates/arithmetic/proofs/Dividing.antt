-- Long division takes the divisor off, or not, at each bit. Assumes nothing.
use Rattle.std.proofs.Common.{◌≡◌, ℕ, zero, suc, ◌+◌, ◌*◌, ◌^◌, ◌<◌, ◌≤◌, ltb, List, [], ◌∷◌, length, get_or, drop, replicate, sym, refl, ap, ◌∙◌, subst, one-mul, zero-mul, arith}
use native.Mathlib.Nat.{zero-div}
use lib.Bits.{bit_xor, xor_zero_r, xor_shifted}
use Rattle.std.proofs.lemmas.Bool.{cond_both, ltb-true, ltb-false}
use Rattle.std.proofs.lemmas.Nat.{pow_pos}
use Rattle.std.proofs.ByRecursion.{All-append}
use Rattle.std.proofs.lemmas.List.{drop_all}
use Rattle.std.specs.Int.Digits.{number_from_digits, number_from_digits_after, AllBelowBase}
use Rattle.arithmetic.specs.Digits.{digits, bits_of}
use Rattle.arithmetic.specs.Division.{reduced, remainder, remainder_after, check_message, check_of, IsRemainder}
use Rattle.arithmetic.proofs.Sums.{leading-lost}
use Rattle.arithmetic.proofs.Folds.{bits_of-under, number_more}
use Rattle.arithmetic.proofs.Remainders.{message_from, Takes, all_fit, is-remainder}

-- a bit that comes in at the lowest place makes a number of the bits
joined : (v b : ℕ) → b < 2 → bit_xor (v * 2) (b * 1) ≡ v * 2 + b
joined v b h = let e : b * 1 ≡ b = omega arith in ap (bit_xor (v * 2)) e ∙ xor_shifted v 1 b h

number-message : (v : ℕ) (bits : List ℕ) → AllBelowBase 2 bits → message_from 1 v bits ≡ number_from_digits_after 2 v bits
number-message v [] u = refl
number-message v (b ∷ bs) u = ap (λ n. message_from 1 n bs) (joined v b u.0) ∙ number-message (v * 2 + b) bs u.1

module _ (d p : ℕ) (lp : 2 ^ d ≤ p) (hp : p < 2 * 2 ^ d) where
  takes : (rest bit : ℕ) → rest < 2 ^ d → bit < 2 → Takes p 1 (λ n. n < 2 ^ d) (λ left b. reduced d p (2 * left + b)) rest bit
  unfolding reduced
  takes rest bit h hb =
      let x = 2 * rest + bit in
      let came : x ≡ bit_xor (rest * 2) (bit * 1) = sym (joined rest bit hb ∙ omega arith) in
      let t = cond_both (ltb x (2 ^ d)) x (bit_xor x p) (λ y. (q : ℕ) × (q < 2) × (y ≡ bit_xor (bit_xor (rest * 2) (bit * 1)) (q * p)) × (y < 2 ^ d))
      (λ e. (0, omega arith, came ∙ sym (xor_zero_r (bit_xor (rest * 2) (bit * 1))) ∙ ap (bit_xor (bit_xor (rest * 2) (bit * 1))) (sym (zero-mul p)), ltb-true x (2 ^ d) e))
      (λ e. (1, omega arith, ap (λ n. bit_xor n p) came ∙ ap (bit_xor (bit_xor (rest * 2) (bit * 1))) (sym (one-mul p)), leading-lost d x p (ltb-false x (2 ^ d) e) (omega arith) lp hp)) in
      record { quotient = t.0; is-bit = t.1; taken = t.2; fits-again = t.3 }

  pub remainder-below : (bits : List ℕ) → AllBelowBase 2 bits → remainder d p bits < 2 ^ d
  remainder-below bits u = all_fit p 1 (λ n. n < 2 ^ d) (λ left b. reduced d p (2 * left + b)) takes 0 bits u (pow_pos d)

  pub long-division : (bits : List ℕ) → AllBelowBase 2 bits → IsRemainder d p (number_from_digits 2 bits) (remainder d p bits)
  long-division bits u =
      subst (λ (m : ℕ). IsRemainder d p m (remainder d p bits)) (number-message 0 bits u)
      (is-remainder d p lp hp 1 (λ left b. reduced d p (2 * left + b)) takes 0 bits u (pow_pos d))

-- the check that a divisor gives
module _ (d p : ℕ) (lp : 2 ^ d ≤ p) (hp : p < 2 * 2 ^ d) where
  pub message-bits : (ns : List ℕ) → AllBelowBase 2 (check_message d ns)
  message-bits ns = All-append (λ b. b < 2) (bits_of d ns) (replicate d 0) (bits_of-under d ns) (zero_bits d)
    where
      zero_bits : (k : ℕ) → AllBelowBase 2 (replicate k 0)
      zero_bits zero = tt
      zero_bits (suc k) = (omega arith, zero_bits k)

  pub check-below : (ns : List ℕ) → check_of d p ns < 2 ^ d
  check-below ns = remainder-below d p lp hp (check_message d ns) (message-bits ns)

  pub check-remainder : (ns : List ℕ) (r : ℕ) → r ≡ check_of d p ns → IsRemainder d p (number_from_digits 2 (check_message d ns)) r
  check-remainder ns r e = subst (λ (n : ℕ). IsRemainder d p (number_from_digits 2 (check_message d ns)) n) (sym e) (long-division d p lp hp (check_message d ns) (message-bits ns))

-- the steps of a division that goes on with one number of a list after the other
module _ (d p : ℕ) where
  -- one more number brought down
  pub division-more : (ns : List ℕ) (n i rest rest' : ℕ) {degree divisor : ℕ} → i < length ns → n ≡ get_or ns i 0 → degree ≡ d → divisor ≡ p
      → rest' ≡ remainder_after degree divisor rest (digits 2 degree n)
      → remainder_after d p rest' (check_message d (drop (i + 1) ns)) ≡ remainder_after d p rest (check_message d (drop i ns))
  division-more ns n i rest rest' {degree} {divisor} h en ed ep er =
      number_more (λ left bit. reduced d p (2 * left + bit)) d ns (replicate d 0) i rest rest' h
      (er ∙ ap (λ k. remainder_after k divisor rest (digits 2 k n)) ed ∙ ap (λ q. remainder_after d q rest (digits 2 d n)) ep ∙ ap (λ m. remainder_after d p rest (digits 2 d m)) en)

  zeros : (k : ℕ) → digits 2 k 0 ≡ replicate k 0
  zeros zero = refl
  zeros (suc k) = rw (zeros k, zero-div (2 ^ k))

  -- at the end the zero bits are left
  pub division-end : (ns : List ℕ) (i rest degree divisor whole : ℕ) → length ns ≤ i → degree ≡ d → divisor ≡ p
      → remainder_after d p rest (check_message d (drop i ns)) ≡ whole
      → remainder_after degree divisor rest (digits 2 degree 0) ≡ whole
  division-end ns i rest degree divisor whole h ed ep inv =
      ap (λ k. remainder_after k divisor rest (digits 2 k 0)) ed
      ∙ ap (λ q. remainder_after d q rest (digits 2 d 0)) ep
      ∙ ap (remainder_after d p rest) (zeros d)
      ∙ ap (λ ms. remainder_after d p rest (check_message d ms)) (sym (drop_all i ns h))
      ∙ inv
