-- Digits in a base: either way between a number and its digits leads back. Assumes nothing.
use Rattle.std.proofs.Common.{◌≡◌, ℕ, zero, suc, ◌+◌, ◌*◌, ◌/◌, ◌%◌, ◌^◌, ◌<◌, List, [], ◌∷◌, ◌++◌, length, sym, refl, ap, ◌∙◌, add_assoc, mod-lt, mod-eq_of_lt, mul_assoc, mul_comm, add-mul, suc-add, mul-pos, mul-zero, mul-suc, pow-suc, zero-add, zero-mul, mul-one, add-one, arith, pow-add}
use native.Mathlib.Nat.{pow-zero, add-mul-div_right, mul-add-mod_self_right, div-div-eq-div-mul}
use lib.Arith.{digits_lt, digits_div, mod-mul}
use Rattle.std.specs.Int.Digits.{number_from_digits, number_from_digits_after, AllBelowBase}
use Rattle.std.proofs.lemmas.Int.Digits.{number_lt}
use Rattle.arithmetic.specs.Digits.{digits}

-- a power of a power
pub pow-mul : (b i k : ℕ) → b ^ (i * k) ≡ (b ^ i) ^ k
pow-mul b i zero = rw (mul-zero, pow-zero b, pow-zero (b ^ i))
pow-mul b i (suc k) = rw (mul-suc, pow-add, pow-suc, pow-mul b i k)

-- a digit put in front of others
cons : {x y : ℕ} {xs ys : List ℕ} → x ≡ y → xs ≡ ys → ◌≡◌ {A = List ℕ} (x ∷ xs) (y ∷ ys)
cons p q = cc

pub length_digits : (b k n : ℕ) → length (digits b k n) ≡ k
length_digits b zero n = refl
length_digits b (suc k) n = ap suc (length_digits b k n)

-- digits behind a number
pub number-after : (b n : ℕ) (ds : List ℕ) → number_from_digits_after b n ds ≡ n * b ^ length ds + number_from_digits b ds
number-after b n [] = rw (pow-zero, mul-one) (omega arith)
number-after b n (d ∷ ds) =
    let here = number-after b (n * b + d) ds in
    let front = number-after b (0 * b + d) ds in
    let scaled : (n * b + d) * b ^ length ds ≡ n * b ^ suc (length ds) + d * b ^ length ds =
    add-mul (n * b) d (b ^ length ds) ∙ ap (λ x. x + d * b ^ length ds) (mul_assoc n b (b ^ length ds) ∙ ap (λ x. n * x) (mul_comm b (b ^ length ds) ∙ sym (pow-suc b (length ds)))) in
    let first : (0 * b + d) * b ^ length ds ≡ d * b ^ length ds = ap (λ x. (x + d) * b ^ length ds) (zero-mul b) ∙ ap (λ x. x * b ^ length ds) (zero-add d) in
    here ∙ ap (λ x. x + number_from_digits b ds) scaled ∙ add_assoc (n * b ^ suc (length ds)) (d * b ^ length ds) (number_from_digits b ds)
    ∙ ap (λ x. n * b ^ suc (length ds) + x) (ap (λ x. x + number_from_digits b ds) (sym first) ∙ sym front)

pub number_append : (b : ℕ) (xs ys : List ℕ) → number_from_digits b (xs ++ ys) ≡ number_from_digits b xs * b ^ length ys + number_from_digits b ys
number_append b xs ys = after 0 xs
  where
    after : (n : ℕ) (xs : List ℕ) → number_from_digits_after b n (xs ++ ys) ≡ number_from_digits_after b n xs * b ^ length ys + number_from_digits b ys
    after n [] = number-after b n ys
    after n (x ∷ xs) = after (n * b + x) xs

pub number-cons : (b d : ℕ) (ds : List ℕ) → number_from_digits b (d ∷ ds) ≡ d * b ^ length ds + number_from_digits b ds
number-cons b d ds = ap (λ x. number_from_digits_after b (x + d) ds) (zero-mul b) ∙ ap (λ x. number_from_digits_after b x ds) (zero-add d) ∙ number-after b d ds

-- one more digit behind a number of i digits
pub more-below : (b i n d : ℕ) → n < b ^ i → d < b → n * b + d < b ^ (i + 1)
more-below b i n d h few = rw (add-one, pow-suc) (digits_lt {q = n} {m = b ^ i} {r = d} {c = b} h few)

module _ (b : ℕ) (some : 0 < b) where
  pub power_pos : (k : ℕ) → 0 < b ^ k
  power_pos zero = rw pow-zero (omega arith)
  power_pos (suc k) = rw pow-suc (mul-pos (power_pos k) some)

  pub digits-under : (k n : ℕ) → AllBelowBase b (digits b k n)
  digits-under zero n = tt
  digits-under (suc k) n = (mod-lt (n / b ^ k) some, digits-under k n)

  -- what counts more than k digits do is not seen in them
  pub digits-high : (k m n : ℕ) → digits b k (m * b ^ k + n) ≡ digits b k n
  digits-high zero m n = refl
  digits-high (suc k) m n =
      let up : m * b ^ suc k ≡ m * b * b ^ k = ap (λ x. m * x) (pow-suc b k ∙ mul_comm (b ^ k) b) ∙ sym (mul_assoc m b (b ^ k)) in
      let whole : m * b ^ suc k + n ≡ n + m * b * b ^ k = omega arith in
      let first : (m * b ^ suc k + n) / b ^ k ≡ m * b + n / b ^ k = ap (λ x. x / b ^ k) whole ∙ add-mul-div_right n (m * b) (power_pos k) ∙ omega arith in
      cons (ap (λ x. x % b) first ∙ mul-add-mod_self_right m b (n / b ^ k)) (ap (λ x. digits b k (x + n)) up ∙ digits-high k (m * b) n)

  -- the digits of a number of k digits with j more behind them
  pub digits_more : (k j m n : ℕ) → n < b ^ j → digits b (k + j) (m * b ^ j + n) ≡ digits b k m ++ digits b j n
  digits_more zero j m n h = rw zero-add (digits-high j m n)
  digits_more (suc k) j m n h =
      let place : suc k + j ≡ suc (k + j) = suc-add k j in
      let power : b ^ (k + j) ≡ b ^ j * b ^ k = pow-add b k j ∙ mul_comm (b ^ k) (b ^ j) in
      let first : (m * b ^ j + n) / b ^ (k + j) ≡ m / b ^ k = ap (λ x. (m * b ^ j + n) / x) power ∙ sym (div-div-eq-div-mul (m * b ^ j + n) (b ^ j) (b ^ k)) ∙ ap (λ x. x / b ^ k) (digits_div m h) in
      ap (λ x. digits b x (m * b ^ j + n)) place ∙ cons (ap (λ x. x % b) first) (digits_more k j m n h)

  pub number_digits : (k n : ℕ) → number_from_digits b (digits b k n) ≡ n % b ^ k
  number_digits zero n = rw pow-zero (omega arith)
  number_digits (suc k) n =
      number-cons b (n / b ^ k % b) (digits b k n)
      ∙ ap (λ x. n / b ^ k % b * b ^ x + number_from_digits b (digits b k n)) (length_digits b k n)
      ∙ ap (λ x. n / b ^ k % b * b ^ k + x) (number_digits k n)
      ∙ sym (ap (λ x. n % x) (pow-suc b k ∙ mul_comm (b ^ k) b) ∙ mod-mul n some (power_pos k))

  -- the number of its digits, where they are enough
  pub number-again : (k n : ℕ) → n < b ^ k → number_from_digits b (digits b k n) ≡ n
  number-again k n h = number_digits k n ∙ mod-eq_of_lt h

  -- the digits of their number
  pub digits-again : (ds : List ℕ) → AllBelowBase b ds → digits b (length ds) (number_from_digits b ds) ≡ ds
  digits-again [] u = refl
  digits-again (d ∷ ds) u =
      let below : number_from_digits b ds < b ^ length ds = number_lt b ds u.1 in
      let whole = number-cons b d ds in
      cons (ap (λ x. x / b ^ length ds % b) whole ∙ ap (λ x. x % b) (digits_div d below) ∙ mod-eq_of_lt u.0)
      (ap (digits b (length ds)) whole ∙ digits-high (length ds) d (number_from_digits b ds) ∙ digits-again ds u.1)
