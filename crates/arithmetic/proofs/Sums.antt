-- Adding polynomials over two elements, which are numbers: what is added twice goes away. Assumes nothing.
use Rattle.std.proofs.Common.{◌≡◌, ℕ, ◌+◌, ◌-◌, ◌*◌, ◌^◌, ◌<◌, ◌≤◌, sym, ap, ◌∙◌, arith}
use lib.Bits.{bit_xor, xor_assoc, xor_comm, xor_self, xor_zero_r, xor_zero_l, xor_block, xor_lt}

pub interchange : (a b x y : ℕ) → bit_xor (bit_xor a b) (bit_xor x y) ≡ bit_xor (bit_xor a x) (bit_xor b y)
interchange a b x y =
    xor_assoc a b (bit_xor x y)
    ∙ ap (bit_xor a) (sym (xor_assoc b x y) ∙ ap (λ z. bit_xor z y) (xor_comm b x) ∙ xor_assoc x b y)
    ∙ sym (xor_assoc a x (bit_xor b y))

pub cancels : (a x k : ℕ) → bit_xor (bit_xor a k) (bit_xor x k) ≡ bit_xor a x
cancels a x k = interchange a k x k ∙ ap (bit_xor (bit_xor a x)) (xor_self k) ∙ xor_zero_r (bit_xor a x)

-- what adds up to nothing is the same
pub same : (a b : ℕ) → bit_xor a b ≡ 0 → a ≡ b
same a b e = sym (xor_zero_r a) ∙ ap (bit_xor a) (sym (xor_self b)) ∙ sym (xor_assoc a b b) ∙ ap (λ z. bit_xor z b) e ∙ xor_zero_l b

-- two sums that are the same differ alike in both parts
pub differ-alike : (a b r s : ℕ) → bit_xor a r ≡ bit_xor b s → bit_xor a b ≡ bit_xor r s
differ-alike a b r s e =
    sym (cancels a b r)
    ∙ ap (λ z. bit_xor z (bit_xor b r)) (e ∙ xor_comm b s)
    ∙ ap (bit_xor (bit_xor s b)) (xor_comm b r)
    ∙ cancels s r b
    ∙ xor_comm s r

pub doubled-sum : (a b : ℕ) → bit_xor (a * 2) (b * 2) ≡ bit_xor a b * 2
doubled-sum a b =
    let x : a * 2 ≡ a * 2 + 0 = omega arith in
    let y : b * 2 ≡ b * 2 + 0 = omega arith in
    ap (λ n. bit_xor n (b * 2)) x ∙ ap (bit_xor (a * 2 + 0)) y ∙ xor_block 1 a b 0 0 (omega arith) (omega arith) ∙ omega arith

-- numbers of degree d: what stands below the leading one
module _ (d : ℕ) where
  leading : (x : ℕ) → 2 ^ d ≤ x → x ≡ 1 * 2 ^ d + (x - 2 ^ d)
  leading x h = omega arith

  -- added to one another they lose it
  pub leading-lost : (x y : ℕ) → 2 ^ d ≤ x → x < 2 * 2 ^ d → 2 ^ d ≤ y → y < 2 * 2 ^ d → bit_xor x y < 2 ^ d
  leading-lost x y lx hx ly hy =
      let a : x - 2 ^ d < 2 ^ d = omega arith in
      let b : y - 2 ^ d < 2 ^ d = omega arith in
      let e : bit_xor x y ≡ 0 * 2 ^ d + bit_xor (x - 2 ^ d) (y - 2 ^ d) =
      ap (λ n. bit_xor n y) (leading x lx) ∙ ap (bit_xor (1 * 2 ^ d + (x - 2 ^ d))) (leading y ly) ∙ xor_block d 1 1 (x - 2 ^ d) (y - 2 ^ d) a b in
      omega (arith, e, xor_lt d (x - 2 ^ d) (y - 2 ^ d) a b)

  -- added to a smaller number they keep it
  pub leading-kept : (s y : ℕ) → s < 2 ^ d → 2 ^ d ≤ y → y < 2 * 2 ^ d → (2 ^ d ≤ bit_xor s y) × (bit_xor s y < 2 * 2 ^ d)
  leading-kept s y hs ly hy =
      let b : y - 2 ^ d < 2 ^ d = omega arith in
      let z : s ≡ 0 * 2 ^ d + s = omega arith in
      let e : bit_xor s y ≡ 1 * 2 ^ d + bit_xor s (y - 2 ^ d) =
      ap (λ n. bit_xor n y) z ∙ ap (bit_xor (0 * 2 ^ d + s)) (leading y ly) ∙ xor_block d 0 1 s (y - 2 ^ d) hs b in
      let m = xor_lt d s (y - 2 ^ d) hs b in
      (omega arith, omega arith)
