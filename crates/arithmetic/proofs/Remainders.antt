-- What is worked out bit by bit, a divisor taken off or not at each, is the remainder; and there is only one.
-- Assumes nothing.
use Rattle.std.proofs.Common.{◌≡◌, ℕ, zero, suc, ◌-◌, ◌*◌, ◌^◌, ◌<◌, ◌≤◌, List, [], ◌∷◌, ◌++◌, length, replicate, fold, sym, refl, ap, ◌∙◌, one-mul, zero-mul, arith}
use lib.Bits.{bit_xor, xor_assoc, xor_self, xor_zero_r, xor_zero_l, xor_lt}
use Rattle.std.proofs.lemmas.List.{length-append, length-replicate}
use Rattle.std.proofs.ByRecursion.{All-append}
use Rattle.std.specs.Int.Digits.{AllBelowBase}
use Rattle.arithmetic.specs.Division.{product, Leaves, IsRemainder}
use Rattle.arithmetic.proofs.Sums.{interchange, cancels, same, differ-alike, doubled-sum, leading-kept}

-- bits that come behind a sum, each worth w where it comes in
abbrev pub message_from : ℕ → ℕ → List ℕ → ℕ
message_from w sum bits = fold (λ s bit. bit_xor (s * 2) (bit * w)) sum bits

-- the step f takes the divisor p off what stands there once the bit has come, or does not, and what is left fits
pub record Takes (p w : ℕ) (fits : ℕ → Type 0) (f : ℕ → ℕ → ℕ) (rest bit : ℕ) : Type 0 where
  pub quotient : ℕ
  pub is-bit : quotient < 2
  pub taken : f rest bit ≡ bit_xor (bit_xor (rest * 2) (bit * w)) (quotient * p)
  pub fits-again : fits (f rest bit)

-- the bits of the quotient, gathered on the way; a product is a message whose bits are worth its first factor
module _ (p w : ℕ) (fits : ℕ → Type 0) (f : ℕ → ℕ → ℕ) (step : (rest bit : ℕ) → fits rest → bit < 2 → Takes p w fits f rest bit) where
  pub all_fit : (rest : ℕ) (bits : List ℕ) → AllBelowBase 2 bits → fits rest → fits (fold f rest bits)
  all_fit rest [] u h = h
  all_fit rest (b ∷ bs) u h = all_fit (f rest b) bs u.1 (step rest b h u.0).fits-again

  divided : (s rest : ℕ) (bits : List ℕ) → AllBelowBase 2 bits → fits rest
      → (qs : List ℕ) × AllBelowBase 2 qs × (message_from w (bit_xor s rest) bits ≡ bit_xor (message_from p s qs) (fold f rest bits))
  divided s rest [] u h = ([], tt, refl)
  divided s rest (b ∷ bs) u h =
      let t = step rest b h u.0 in
      let k = t.quotient * p in
      let came = bit_xor (rest * 2) (b * w) in
      let next : bit_xor (bit_xor s rest * 2) (b * w) ≡ bit_xor (bit_xor (s * 2) k) (f rest b) =
      ap (λ y. bit_xor y (b * w)) (sym (doubled-sum s rest))
      ∙ xor_assoc (s * 2) (rest * 2) (b * w)
      ∙ sym (cancels (s * 2) came k)
      ∙ ap (bit_xor (bit_xor (s * 2) k)) (sym t.taken) in
      let more = divided (bit_xor (s * 2) k) (f rest b) bs u.1 t.fits-again in
      (t.quotient ∷ more.0, (t.is-bit, more.1), ap (λ v. message_from w v bs) next ∙ more.2)

module _ (d p : ℕ) (lp : 2 ^ d ≤ p) (hp : p < 2 * 2 ^ d) where
  -- a multiple of the divisor has its degree, or is nothing
  Multiple : ℕ → Type 0
  Multiple y = y < 2 ^ d → y ≡ 0

  doubled : (z : ℕ) → Multiple z → Multiple (z * 2)
  unfolding Multiple
  doubled z m h = let e : z ≡ 0 = m (omega arith) in omega arith

  -- with the divisor added, a small sum would mean that there was a leading one to lose
  added : (z : ℕ) → Multiple z → Multiple (bit_xor (z * 2) p)
  unfolding Multiple
  added z m h =
      let back : bit_xor (bit_xor (z * 2) p) p ≡ z * 2 = xor_assoc (z * 2) p p ∙ ap (bit_xor (z * 2)) (xor_self p) ∙ xor_zero_r (z * 2) in
      let k = leading-kept d (bit_xor (z * 2) p) p h lp hp in
      let e : z ≡ 0 = m (omega (arith, k.1)) in
      absurd (omega (arith, k.0))

  -- the difference of two bits times the divisor
  between : (z q w : ℕ) → q < 2 → w < 2 → Multiple z → Multiple (bit_xor (z * 2) (bit_xor (q * p) (w * p)))
  between z zero zero hq hw m = rw (zero-mul p, xor_zero_r (z * 2)) (doubled z m)
  between z zero (suc zero) hq hw m = rw (zero-mul p, xor_zero_l (1 * p), one-mul p) (added z m)
  between z (suc zero) zero hq hw m = rw (zero-mul p, xor_zero_r (1 * p), one-mul p) (added z m)
  between z (suc zero) (suc zero) hq hw m = rw (xor_self (1 * p), xor_zero_r (z * 2)) (doubled z m)
  between z (suc (suc q)) w hq hw m = absurd (omega arith)
  between z zero (suc (suc w)) hq hw m = absurd (omega arith)
  between z (suc zero) (suc (suc w)) hq hw m = absurd (omega arith)

  -- so the difference of two multiples is one, first for quotients of the same length
  multiples : (s t : ℕ) (qs ws : List ℕ) → AllBelowBase 2 qs → AllBelowBase 2 ws → length qs ≡ length ws → Multiple (bit_xor s t) → Multiple (bit_xor (message_from p s qs) (message_from p t ws))
  multiples s t [] [] hq hw e m = m
  multiples s t [] (w ∷ ws) hq hw e m = absurd (omega arith)
  multiples s t (q ∷ qs) [] hq hw e m = absurd (omega arith)
  multiples s t (q ∷ qs) (w ∷ ws) hq hw e m =
      multiples (bit_xor (s * 2) (q * p)) (bit_xor (t * 2) (w * p)) qs ws hq.1 hw.1 (omega arith)
      (rw (interchange (s * 2) (q * p) (t * 2) (w * p), doubled-sum s t) (between (bit_xor s t) q w hq.0 hw.0 m))

  nothing : Multiple 0
  unfolding Multiple
  nothing h = refl

  -- zero bits in front change no product
  padded : (k : ℕ) (qs : List ℕ) → product p (replicate k 0 ++ qs) ≡ product p qs
  padded zero qs = refl
  padded (suc k) qs = let e : bit_xor (0 * 2) (0 * p) ≡ 0 = ap (bit_xor 0) (zero-mul p) in ap (λ s. message_from p s (replicate k 0 ++ qs)) e ∙ padded k qs

  padding : (k : ℕ) → AllBelowBase 2 (replicate k 0)
  padding zero = tt
  padding (suc k) = (omega arith, padding k)

  multiples-any : (qs ws : List ℕ) → AllBelowBase 2 qs → AllBelowBase 2 ws → Multiple (bit_xor (product p qs) (product p ws))
  multiples-any qs ws hq hw =
      let k = length ws - length qs in
      let l = length qs - length ws in
      let long : length (replicate k 0 ++ qs) ≡ length (replicate l 0 ++ ws) = simp (length-append, length-replicate) (omega arith) in
      let m = multiples 0 0 (replicate k 0 ++ qs) (replicate l 0 ++ ws) (All-append (λ b. b < 2) (replicate k 0) qs (padding k) hq) (All-append (λ b. b < 2) (replicate l 0) ws (padding l) hw) long nothing in
      rw (← padded k qs, ← padded l ws) m

  -- two numbers that are left are the same
  one_left : (message r s : ℕ) → Leaves d p message r → Leaves d p message s → r ≡ s
  unfolding Multiple
  one_left message r s l k =
      let e : bit_xor (product p l.quotient) (product p k.quotient) ≡ bit_xor r s = differ-alike (product p l.quotient) (product p k.quotient) r s (sym l.whole ∙ k.whole) in
      let m = multiples-any l.quotient k.quotient l.bits k.bits in
      same r s (sym e ∙ m (rw e (xor_lt d r s l.below k.below)))

  -- what the steps leave of a message is its remainder
  pub is-remainder : (w : ℕ) (f : ℕ → ℕ → ℕ) → ((rest bit : ℕ) → rest < 2 ^ d → bit < 2 → Takes p w (λ n. n < 2 ^ d) f rest bit)
      → (start : ℕ) (bits : List ℕ) → AllBelowBase 2 bits → start < 2 ^ d → IsRemainder d p (message_from w start bits) (fold f start bits)
  is-remainder w f step start bits u h =
      let t = divided p w (λ n. n < 2 ^ d) f step 0 start bits u h in
      let z : message_from w start bits ≡ message_from w (bit_xor 0 start) bits = ap (λ v. message_from w v bits) (sym (xor_zero_l start)) in
      let left : Leaves d p (message_from w start bits) (fold f start bits) = record { quotient = t.0; bits = t.1; whole = z ∙ t.2; below = all_fit p w (λ n. n < 2 ^ d) f step start bits u h } in
      record { leaves = left; only = λ other k. one_left (message_from w start bits) other (fold f start bits) k left }
