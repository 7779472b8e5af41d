-- A body cut into blocks and put together again: what one turn does to the number of all values. Assumes nothing.
use Rattle.std.proofs.Common.{◌≡◌, ℕ, ◌+◌, ◌-◌, ◌*◌, ◌/◌, ◌%◌, ◌^◌, ◌<◌, ◌≤◌, List, ◌++◌, length, get_or, take, drop, set, replicate, sym, ap, ◌∙◌, subst, pow-suc, add-one, arith, length-set, pow-add}
use lib.Arith.{digits_lt, digits_div, digits_mod}
use Rattle.std.proofs.lemmas.Nat.{div_below, div-add-mod', mul-pow}
use Rattle.std.proofs.lemmas.Int.Digits.{number_push, number_lt}
use Rattle.std.proofs.ByRecursion.{All-push}
use Rattle.std.proofs.lemmas.List.{drop-set-lt, drop-drop, drop-replicate, length-take-le, length-drop, drop_more, take_more_set}
use Rattle.std.specs.Int.Digits.{number_from_digits, AllBelowBase}
use Rattle.arithmetic.specs.Digits.{digits}
use Rattle.arithmetic.proofs.Bases.{pow-mul, power_pos, number_append, number-cons, number-again, digits-again}
use Rattle.fields.specs.Bodies.{body_number, closed_blocks, filling_of}

pub spare_more : (k : ℕ) → 4 ^ (k + 1) ≡ 4 ^ k * 4
spare_more k = rw (add-one, pow-suc)

-- so many values hold as many blocks and two bits more for each
pub room-of-blocks : (m : ℕ) → 64 ^ (11 * m) ≡ (2 ^ 64) ^ m * 4 ^ m
room-of-blocks m = pow-mul 64 11 m ∙ mul-pow (2 ^ 64) 4 m

-- from the values so far the first k blocks are cut off, and `rest` is left over
pub record CutSoFar (seen : List ℕ) (blocks : List ℕ) (k rest : ℕ) : Type 0 where
  pub long : length blocks ≡ 3
  pub below : rest < 4 ^ k
  pub words : AllBelowBase (2 ^ 64) (take k blocks)
  pub blank : drop k blocks ≡ replicate (3 - k) 0
  pub whole : number_from_digits 64 seen ≡ body_number k (take k blocks) rest

-- one place fewer is blank
pub blank-fewer : (blocks : List ℕ) (k block : ℕ) → drop k blocks ≡ replicate (3 - k) 0 → drop (k + 1) (set blocks k block) ≡ replicate (3 - (k + 1)) 0
blank-fewer blocks k block e =
    let fewer : 3 - k - 1 ≡ 3 - (k + 1) = omega arith in
    rw (drop-set-lt (k + 1) blocks k block (omega arith), ← drop-drop 1 k blocks, e, drop-replicate {X = ℕ} 1 (3 - k) 0, fewer)

-- one more block is cut off
pub cut-more : (seen group blocks : List ℕ) (k rest block rest' spare : ℕ) → k < 3 → length group ≡ 11 → spare ≡ 4 ^ (k + 1) → block < 2 ^ 64 → rest' < spare
    → block * spare + rest' ≡ rest * 64 ^ 11 + number_from_digits 64 group
    → CutSoFar seen blocks k rest → CutSoFar (seen ++ group) (set blocks k block) (k + 1) rest'
cut-more seen group blocks k rest block rest' spare hk eleven room hb hr e c =
    let front = take k blocks in
    let more = take_more_set blocks k block (omega (arith, c.long)) in
    record {
      long = length-set blocks k block ∙ c.long;
      below = omega arith;
      words = rw more (All-push (λ b. b < 2 ^ 64) front block c.words hb);
      blank = blank-fewer blocks k block c.blank;
      whole =
          rw (number_append 64 seen group, eleven, c.whole, more, number_push (2 ^ 64) front block, ← room)
          (omega (arith, ap (λ x. number_from_digits (2 ^ 64) front * x) (room ∙ spare_more k)));
    }

-- the parts of a body's number
pub body-parts : (n : ℕ) (blocks : List ℕ) (filling : ℕ) → AllBelowBase (2 ^ 64) blocks → length blocks ≡ n → filling < 4 ^ n
    → (closed_blocks n (body_number n blocks filling) ≡ blocks) × (filling_of n (body_number n blocks filling) ≡ filling)
body-parts n blocks filling words long below = (
  ap (digits (2 ^ 64) n) (digits_div (number_from_digits (2 ^ 64) blocks) below) ∙ ap (λ k. digits (2 ^ 64) k (number_from_digits (2 ^ 64) blocks)) (sym long) ∙ digits-again (2 ^ 64) (omega arith) blocks words,
  digits_mod (number_from_digits (2 ^ 64) blocks) below,
)

-- all are
pub cut-all : (vs blocks : List ℕ) (n k rest : ℕ) → n ≤ 3 → k ≡ n → CutSoFar vs blocks k rest
    → (take n blocks ≡ closed_blocks n (number_from_digits 64 vs)) × (rest ≡ filling_of n (number_from_digits 64 vs)) × (rest < 4 ^ n) × (drop n blocks ≡ replicate (3 - n) 0)
cut-all vs blocks n k rest few ek cut =
    let c = subst (λ (j : ℕ). CutSoFar vs blocks j rest) ek cut in
    let parts = body-parts n (take n blocks) rest c.words (length-take-le n blocks (omega (arith, c.long))) c.below in
    (sym (ap (closed_blocks n) c.whole ∙ parts.0), sym (ap (filling_of n) c.whole ∙ parts.1), c.below, c.blank)

-- the blocks from k on are put down as values, and `rest` is left over in front of them
pub record PutSoFar (n : ℕ) (blocks : List ℕ) (filling : ℕ) (vs : List ℕ) (k rest : ℕ) : Type 0 where
  pub below : rest < 4 ^ k
  pub whole : rest * 64 ^ (11 * (n - k)) + number_from_digits 64 (drop (11 * k) vs) ≡ body_number n (drop k blocks) filling

-- one more block is put down in front of the others
pub put-more : (n : ℕ) (blocks vs : List ℕ) (filling k rest block spare r : ℕ) (w vs' : List ℕ) → k < n → length blocks ≡ n → length vs ≡ 11 * n
    → block ≡ get_or blocks k 0 → spare ≡ 4 ^ (k + 1) → r * 64 ^ 11 + number_from_digits 64 w ≡ block * spare + rest → r * 4 < spare
    → drop (11 * k) vs' ≡ w ++ drop (11 * (k + 1)) vs
    → PutSoFar n blocks filling vs (k + 1) rest → PutSoFar n blocks filling vs' k r
put-more n blocks vs filling k rest block spare r w vs' hk lb lv eb room step hr ev c =
    let m = n - (k + 1) in
    let behind = drop (11 * (k + 1)) vs in
    let later = drop (k + 1) blocks in
    let long : length behind ≡ 11 * m = length-drop (11 * (k + 1)) vs ∙ omega arith in
    let left : length later ≡ m = length-drop (k + 1) blocks ∙ omega arith in
    let count : 11 * (n - k) ≡ 11 + 11 * m = omega arith in
    let total : k + 1 + m ≡ n = omega arith in
    let fours : 4 ^ n ≡ 4 ^ (k + 1) * 4 ^ m = ap (λ i. 4 ^ i) (sym total) ∙ pow-add 4 (k + 1) m in
    let power : spare * 64 ^ (11 * m) ≡ (2 ^ 64) ^ m * 4 ^ n = rw (room-of-blocks m, room, fours) (omega arith) in
    record {
      below = omega (arith, spare_more k);
      whole =
          rw (count, pow-add 64 11 (11 * m), ev, number_append 64 w behind, long, drop_more blocks k 0 (omega arith), ← eb, number-cons (2 ^ 64) block later, left)
          (omega (arith, ap (λ x. x * 64 ^ (11 * m)) step, ap (λ x. block * x) power, c.whole));
    }

pub put-all : (n : ℕ) (blocks vs : List ℕ) (filling k rest : ℕ) → k ≡ 0 → length vs ≡ 11 * n → AllBelowBase 64 vs → PutSoFar n blocks filling vs k rest → vs ≡ digits 64 (11 * n) (body_number n blocks filling)
put-all n blocks vs filling k rest z lv u put =
    let c = subst (λ (i : ℕ). PutSoFar n blocks filling vs i rest) z put in
    let none : rest ≡ 0 = omega (arith, c.below) in
    let whole : number_from_digits 64 vs ≡ body_number n blocks filling = omega (arith, c.whole, ap (λ x. x * 64 ^ (11 * (n - 0))) none) in
    rw (← whole, ← lv) (sym (digits-again 64 (omega arith) vs u))

-- a body's number has as many values as its blocks ask for
pub body_below : (n : ℕ) (blocks : List ℕ) (filling : ℕ) → AllBelowBase (2 ^ 64) blocks → length blocks ≡ n → filling < 4 ^ n → body_number n blocks filling < 64 ^ (11 * n)
body_below n blocks filling words long below =
    let most : number_from_digits (2 ^ 64) blocks < (2 ^ 64) ^ n = subst (λ (k : ℕ). number_from_digits (2 ^ 64) blocks < (2 ^ 64) ^ k) long (number_lt (2 ^ 64) blocks words) in
    rw (room-of-blocks n) (digits_lt {q = number_from_digits (2 ^ 64) blocks} {m = (2 ^ 64) ^ n} {r = filling} {c = 4 ^ n} most below)

-- and is put together from its parts
pub body-again : (n body : ℕ) → body < 64 ^ (11 * n) → body_number n (closed_blocks n body) (filling_of n body) ≡ body
body-again n body h =
    let front : body / 4 ^ n < (2 ^ 64) ^ n = div_below body (4 ^ n) ((2 ^ 64) ^ n) (power_pos 4 (omega arith) n) (subst (λ (m : ℕ). body < m) (room-of-blocks n) h) in
    ap (λ x. x * 4 ^ n + body % 4 ^ n) (number-again (2 ^ 64) (omega arith) n (body / 4 ^ n) front) ∙ div-add-mod' body (4 ^ n)
