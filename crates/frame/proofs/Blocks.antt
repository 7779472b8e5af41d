-- Bytes as blocks and blocks as bytes. Assumes nothing.
use Rattle.std.proofs.Common.{◌≡◌, ℕ, zero, suc, ◌+◌, ◌-◌, ◌*◌, ◌/◌, ◌%◌, ◌^◌, ◌<◌, ◌≤◌, List, ◌++◌, map, length, get_or, take, drop, sym, refl, ap, ◌∙◌, subst, mod-eq_of_lt, mul-lt-mul_of_pos_right, pow-suc, arith, pow-add, w64}
use Rattle.std.proofs.Math.Arith.{digits_div}
use Rattle.std.proofs.lemmas.Grind.{pow_more}
use Rattle.std.proofs.lemmas.Int.Digits.{number_lt, number_more, number_push}
use Rattle.std.proofs.ByRecursion.{All-take, All-drop}
use Rattle.std.proofs.lemmas.List.{length-take-le, length-drop, take-append-drop, take_all, map_more}
use Rattle.std.specs.Int.{from_be_bytes, to_be_bytes}
use Rattle.std.specs.Int.Digits.{number_from_digits, AllBelowBase}
use Rattle.std.specs.Simd.{first_chunks}
use Rattle.arithmetic.specs.Digits.{digits}
use Rattle.arithmetic.proofs.Bases.{power_pos, number_append, digits-high, digits_more}
use Rattle.seal.specs.Code.{SealCode}
use Rattle.frame.specs.Payloads.{opened_from}

-- eight bytes make a block
pub block_room : (n : ℕ) → 256 ^ (8 * n) ≡ (2 ^ 64) ^ n
block_room zero = refl
block_room (suc n) =
    let more : 8 * suc n ≡ 8 * n + 8 = omega arith in
    ap (λ k. 256 ^ k) more ∙ pow-add 256 (8 * n) 8 ∙ ap (λ x. x * 256 ^ 8) (block_room n) ∙ sym (pow-suc (2 ^ 64) n)

-- the block of eight bytes
bytes_block : (bytes : List ℕ) → length bytes ≡ 8 → from_be_bytes w64 bytes ≡ number_from_digits 256 bytes
bytes_block bytes long =
    let next : (i : ℕ) → i < 8 → number_from_digits 256 (take (i + 1) bytes) ≡ number_from_digits 256 (take i bytes) * 256 + get_or bytes i 0 = λ i few. number_more 256 bytes i (omega arith) in
    omega (arith, next 0 (omega arith), next 1 (omega arith), next 2 (omega arith), next 3 (omega arith), next 4 (omega arith), next 5 (omega arith), next 6 (omega arith), next 7 (omega arith))
    ∙ ap (number_from_digits 256) (take_all 8 bytes (omega arith))

-- the blocks of a payload, each made of its own eight bytes and put through f
pub blocks_chunks : (f : ℕ → ℕ) (n : ℕ) (payload : List ℕ) → length payload ≡ 8 * n → AllBelowBase 256 payload
    → map (λ bytes. f (from_be_bytes w64 bytes)) (first_chunks 8 n payload) ≡ map f (digits (2 ^ 64) n (number_from_digits 256 payload))
blocks_chunks f zero payload long under = refl
blocks_chunks f (suc n) payload long under =
    let front = take 8 payload in
    let rest = drop 8 payload in
    let block = number_from_digits 256 front in
    let later = number_from_digits 256 rest in
    let eight : length front ≡ 8 = length-take-le 8 payload (omega arith) in
    let fewer : length rest ≡ 8 * n = length-drop 8 payload ∙ omega arith in
    let room : 256 ^ length rest ≡ (2 ^ 64) ^ n = ap (λ k. 256 ^ k) fewer ∙ block_room n in
    let rest-under = All-drop (λ b. b < 256) 8 payload under in
    let small : block < 2 ^ 64 = subst (λ (k : ℕ). block < 256 ^ k) eight (number_lt 256 front (All-take (λ b. b < 256) 8 payload under)) in
    let below : later < (2 ^ 64) ^ n = subst (λ (m : ℕ). later < m) room (number_lt 256 rest rest-under) in
    let whole : number_from_digits 256 payload ≡ block * (2 ^ 64) ^ n + later =
    ap (number_from_digits 256) (sym (take-append-drop 8 payload)) ∙ number_append 256 front rest ∙ ap (λ m. block * m + later) room in
    let first : (block * (2 ^ 64) ^ n + later) / (2 ^ 64) ^ n % 2 ^ 64 ≡ block = ap (λ x. x % 2 ^ 64) (digits_div block below) ∙ mod-eq_of_lt small in
    let others = digits-high (2 ^ 64) (omega arith) n block later in
    let made = bytes_block front eight in
    let again = blocks_chunks f n rest fewer rest-under in
    rw whole cc

-- one more block opened, behind the bytes of those before it
pub opened_more : (seal : SealCode) (blocks : List ℕ) (k : ℕ) → k < length blocks → seal.opened (get_or blocks k 0) < 2 ^ 64
    → opened_from seal (k + 1) (take (k + 1) blocks) ≡ opened_from seal k (take k blocks) ++ to_be_bytes w64 (seal.opened (get_or blocks k 0))
opened_more seal blocks k here small =
    let front = number_from_digits (2 ^ 64) (map seal.opened (take k blocks)) in
    let block = seal.opened (get_or blocks k 0) in
    let more : 8 * (k + 1) ≡ 8 * k + 8 = omega arith in
    let whole : number_from_digits (2 ^ 64) (map seal.opened (take (k + 1) blocks)) ≡ front * 2 ^ 64 + block = ap (number_from_digits (2 ^ 64)) (map_more seal.opened blocks k 0 here) ∙ number_push (2 ^ 64) (map seal.opened (take k blocks)) block in
    let joined = digits_more 256 (omega arith) (8 * k) 8 front block small in
    let last : block % 256 ≡ block / 1 % 256 = omega arith in
    rw (more, whole) cc

-- two bits of technique in front of zero bits
pub technique-fits : (technique power n : ℕ) → technique < 4 → 1 ≤ n → power ≡ 4 ^ (n - 1) → technique * power < 4 ^ n
technique-fits technique power n two-bits some is =
    let next : n - 1 + 1 ≡ n = omega arith in
    let whole : 4 ^ n ≡ 4 * power = ap (λ k. 4 ^ k) (sym next) ∙ pow_more 4 (n - 1) ∙ omega arith in
    rw whole (mul-lt-mul_of_pos_right two-bits (rw is (power_pos 4 (omega arith) (n - 1))))
