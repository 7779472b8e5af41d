-- A payload closed and opened, and opened and closed, with a lawful seal. Assumes nothing.
use Rattle.std.proofs.Common.{◌≡◌, ℕ, ◌*◌, ◌^◌, ◌<◌, List, [], ◌∷◌, map, length, sym, refl, ap, ◌∙◌, subst, arith}
use Rattle.std.proofs.lemmas.Int.Digits.{number_lt}
use Rattle.std.proofs.lemmas.List.{length-map}
use Rattle.std.proofs.ByRecursion.{All-map, All-weaker}
use Rattle.std.specs.Int.Digits.{number_from_digits, AllBelowBase}
use Rattle.arithmetic.specs.Digits.{digits}
use Rattle.arithmetic.proofs.Bases.{length_digits, digits-under, number-again, digits-again}
use Rattle.seal.specs.Code.{SealCode, Lawful}
use Rattle.frame.specs.Payloads.{closed_from, opened_from}
use Rattle.frame.proofs.Blocks.{block_room}

-- m digits in a base b, as n digits in a base c and back again
regrouped : (b m c n : ℕ) → 0 < b → 0 < c → b ^ m ≡ c ^ n → (ds : List ℕ) → AllBelowBase b ds → length ds ≡ m → digits b m (number_from_digits c (digits c n (number_from_digits b ds))) ≡ ds
regrouped b m c n some_b some_c room ds under long =
    let below : number_from_digits b ds < c ^ n = subst (λ (k : ℕ). number_from_digits b ds < k) (ap (λ k. b ^ k) long ∙ room) (number_lt b ds under) in
    ap (digits b m) (number-again c some_c n (number_from_digits b ds) below) ∙ ap (λ k. digits b k (number_from_digits b ds)) (sym long) ∙ digits-again b some_b ds under

-- blocks put through f and then through g, which undoes it
undone : (f g : ℕ → ℕ) → ((block : ℕ) → block < 2 ^ 64 → g (f block) ≡ block) → (blocks : List ℕ) → AllBelowBase (2 ^ 64) blocks → map g (map f blocks) ≡ blocks
undone f g back [] under = refl
undone f g back (block ∷ blocks) under = rw (back block under.0, undone f g back blocks under.1)

module _ (seal : SealCode) (lawful : Lawful seal) (n : ℕ) where
  pub closed-under : (payload : List ℕ) → AllBelowBase (2 ^ 64) (closed_from seal n payload)
  closed-under payload =
      let blocks = digits (2 ^ 64) n (number_from_digits 256 payload) in
      All-map (λ b. b < 2 ^ 64) seal.closed blocks (All-weaker (λ b. b < 2 ^ 64) (λ b. seal.closed b < 2 ^ 64) lawful.closed_block blocks (digits-under (2 ^ 64) (omega arith) n (number_from_digits 256 payload)))

  pub closed-long : (payload : List ℕ) → length (closed_from seal n payload) ≡ n
  closed-long payload = simp (length-map, length_digits)

  pub opened-closed : (payload : List ℕ) → AllBelowBase 256 payload → length payload ≡ 8 * n → opened_from seal n (closed_from seal n payload) ≡ payload
  opened-closed payload under long =
      ap (λ blocks. digits 256 (8 * n) (number_from_digits (2 ^ 64) blocks)) (undone seal.closed seal.opened lawful.opens_closed _ (digits-under (2 ^ 64) (omega arith) n (number_from_digits 256 payload)))
      ∙ regrouped 256 (8 * n) (2 ^ 64) n (omega arith) (omega arith) (block_room n) payload under long

  pub closed-opened : (blocks : List ℕ) → AllBelowBase (2 ^ 64) blocks → length blocks ≡ n → closed_from seal n (opened_from seal n blocks) ≡ blocks
  closed-opened blocks under long =
      let fit = All-map (λ b. b < 2 ^ 64) seal.opened blocks (All-weaker (λ b. b < 2 ^ 64) (λ b. seal.opened b < 2 ^ 64) lawful.opened_block blocks under) in
      ap (map seal.closed) (regrouped (2 ^ 64) n 256 (8 * n) (omega arith) (omega arith) (sym (block_room n)) (map seal.opened blocks) fit (length-map blocks seal.opened ∙ long))
      ∙ undone seal.opened seal.closed lawful.closes_opened blocks under
