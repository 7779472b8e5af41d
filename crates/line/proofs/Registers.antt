-- The radio line's register takes its divisor off, or not, at each bit, and so is a remainder. Assumes nothing.
use Rattle.std.specs.Prelude.{◌≡◌, ℕ, zero, suc, ◌+◌, ◌*◌, ◌/◌, ◌%◌, ◌^◌, ◌<◌, List, [], ◌∷◌, length, ◌==◌, ◌≢◌, bit_xor, refl}
use Rattle.std.proofs.Math.Path.{ap, sym}
use Rattle.std.proofs.Common.{◌∙◌, subst, mul_assoc}
use native.Mathlib.Omega.{arith}
use Rattle.std.specs.Int.Bits.{xor_self, xor_lt, xor_zero_r, xor_block, xor_shifted}
use Rattle.std.proofs.lemmas.Nat.{pow-add, mod_below}
use Rattle.std.proofs.lemmas.Bool.{cond_both, eqb-true, eqb-false}
use Rattle.std.specs.Int.Digits.{number_from_digits, number_from_digits_after, AllBelowBase}
use Rattle.arithmetic.specs.Division.{IsRemainder}
use Rattle.line.specs.Radio.{moved_up, register_after, radio_message}
use Rattle.arithmetic.proofs.Sums.{interchange, doubled-sum}
use Rattle.arithmetic.proofs.Remainders.{message_from, Takes, is-remainder}

-- two bits that differ add up to one
differ : (a b : ℕ) → a < 2 → b < 2 → (a ≢ b) → bit_xor a b ≡ 1
differ zero zero ha hb n = absurd (n refl)
differ zero (suc zero) ha hb n = refl
differ (suc zero) zero ha hb n = refl
differ (suc zero) (suc zero) ha hb n = absurd (n refl)
differ (suc (suc a)) b ha hb n = absurd (omega arith)
differ zero (suc (suc b)) ha hb n = absurd (omega arith)
differ (suc zero) (suc (suc b)) ha hb n = absurd (omega arith)

-- one bit moved in takes the divisor off, or not
module _ (c b : ℕ) (hc : c < 256) (hb : b < 2) where
  low : ℕ
  low = c * 2 % 256

  -- the bit that comes, added to the register with the bit that leaves it
  brought-in : bit_xor (c * 2) (b * 256) ≡ bit_xor (c / 128) b * 256 + low
  unfolding low
  brought-in =
      let split : c * 2 ≡ c / 128 * 256 + c * 2 % 256 = omega arith in
      let zeros : b * 256 ≡ b * 256 + 0 = omega arith in
      ap (λ n. bit_xor n (b * 256)) split
      ∙ ap (bit_xor (c / 128 * 256 + c * 2 % 256)) zeros
      ∙ xor_block 8 (c / 128) b (c * 2 % 256) 0 (mod_below (c * 2) 256 (omega arith)) (omega arith)
      ∙ ap (λ n. bit_xor (c / 128) b * 256 + n) (xor_zero_r (c * 2 % 256))

  moved-divides : (q : ℕ) × (q < 2) × (moved_up c b ≡ bit_xor (bit_xor (c * 2) (b * 256)) (q * 0x1A6)) × (moved_up c b < 256)
  unfolding moved_up low
  moved-divides =
      let small : c * 2 % 256 < 256 = mod_below (c * 2) 256 (omega arith) in
      cond_both (c / 128 == b) 0 0xA6 (λ x. (q : ℕ) × (q < 2) × (bit_xor (c * 2 % 256) x ≡ bit_xor (bit_xor (c * 2) (b * 256)) (q * 0x1A6)) × (bit_xor (c * 2 % 256) x < 256))
      (λ e.
      let same : c / 128 ≡ b = eqb-true (c / 128) b e in
      let gone : bit_xor (c / 128) b ≡ 0 = ap (λ n. bit_xor n b) same ∙ xor_self b in
      let rest : bit_xor (c * 2) (b * 256) ≡ c * 2 % 256 = brought-in ∙ ap (λ n. n * 256 + c * 2 % 256) gone ∙ omega arith in
      (0, omega arith, xor_zero_r (c * 2 % 256) ∙ sym rest ∙ sym (xor_zero_r (bit_xor (c * 2) (b * 256))), xor_lt 8 (c * 2 % 256) 0 small (omega arith)))
      (λ e.
      let stays : bit_xor (c / 128) b ≡ 1 = differ (c / 128) b (omega arith) hb (eqb-false (c / 128) b e) in
      let rest : bit_xor (c * 2) (b * 256) ≡ 1 * 256 + c * 2 % 256 = brought-in ∙ ap (λ n. n * 256 + c * 2 % 256) stays in
      let off : bit_xor (1 * 256 + c * 2 % 256) (1 * 256 + 0xA6) ≡ bit_xor (c * 2 % 256) 0xA6 = xor_block 8 1 1 (c * 2 % 256) 0xA6 (mod_below (c * 2) 256 (omega arith)) (omega arith) ∙ omega arith in
      (1, omega arith, sym (ap (λ n. bit_xor n 0x1A6) rest ∙ off), xor_lt 8 (c * 2 % 256) 0xA6 small (omega arith)))

takes : (c b : ℕ) → c < 256 → b < 2 → Takes 0x1A6 256 (λ n. n < 256) moved_up c b
takes c b hc hb = let t = moved-divides c b hc hb in record { quotient = t.0; is-bit = t.1; taken = t.2; fits-again = t.3 }

-- the message of m and n more bits, with one bit more
message-more : (c m n b : ℕ) → b < 2 → bit_xor (bit_xor (m * 256) (c * 2 ^ n) * 2) (b * 256) ≡ bit_xor ((m * 2 + b) * 256) (c * 2 ^ (n + 1))
message-more c m n b hb =
    let doubled : bit_xor (m * 256) (c * 2 ^ n) * 2 ≡ bit_xor (m * 512) (c * 2 ^ (n + 1)) =
    sym (doubled-sum (m * 256) (c * 2 ^ n))
    ∙ ap (λ x. bit_xor x (c * 2 ^ n * 2)) (omega arith)
    ∙ ap (bit_xor (m * 512)) (mul_assoc c (2 ^ n) 2 ∙ ap (λ x. c * x) (sym (pow-add 2 n 1))) in
    let joined : bit_xor (m * 512) (b * 256) ≡ (m * 2 + b) * 256 = xor_shifted m 9 (b * 256) (omega arith) ∙ omega arith in
    ap (λ x. bit_xor x (b * 256)) doubled
    ∙ ap (bit_xor (bit_xor (m * 512) (c * 2 ^ (n + 1)))) (sym (xor_zero_r (b * 256)))
    ∙ interchange (m * 512) (c * 2 ^ (n + 1)) (b * 256) 0
    ∙ ap (λ x. bit_xor x (bit_xor (c * 2 ^ (n + 1)) 0)) joined
    ∙ ap (bit_xor ((m * 2 + b) * 256)) (xor_zero_r (c * 2 ^ (n + 1)))

-- what the register has seen of a message, all of it
register-message : (c m n : ℕ) (bits : List ℕ) → AllBelowBase 2 bits → message_from 256 (bit_xor (m * 256) (c * 2 ^ n)) bits ≡ bit_xor (number_from_digits_after 2 m bits * 256) (c * 2 ^ (n + length bits))
register-message c m n [] u = let z : n ≡ n + 0 = omega arith in ap (λ k. bit_xor (m * 256) (c * 2 ^ k)) z
register-message c m n (b ∷ bs) u =
    let count : n + 1 + length bs ≡ n + suc (length bs) = omega arith in
    ap (λ v. message_from 256 v bs) (message-more c m n b u.0)
    ∙ register-message c (m * 2 + b) (n + 1) bs u.1
    ∙ ap (λ j. bit_xor (number_from_digits_after 2 (m * 2 + b) bs * 256) (c * 2 ^ j)) count

pub register-remainder : (bits : List ℕ) → AllBelowBase 2 bits → IsRemainder 8 0x1A6 (radio_message bits) (register_after 0xFF bits)
register-remainder bits u =
    let z : 0 + length bits ≡ length bits = omega arith in
    subst (λ (m : ℕ). IsRemainder 8 0x1A6 m (register_after 0xFF bits)) (register-message 0xFF 0 0 bits u ∙ ap (λ j. bit_xor (number_from_digits 2 bits * 256) (0xFF * 2 ^ j)) z)
    (is-remainder 8 0x1A6 (omega arith) (omega arith) 256 moved_up takes 0xFF bits u (omega arith))
