-- The values of a body in groups of eleven. Assumes nothing.
use Rattle.std.proofs.Common.{◌≡◌, ℕ, zero, suc, ◌+◌, ◌-◌, ◌*◌, ◌<◌, ◌≤◌, List, [], ◌∷◌, ◌++◌, length, get_or, take, drop, flat_map, Option, Some, None, Iter, sym, ap, ◌∙◌, append-nil, zero-add, arith}
use borrow.Rule.Slice.PartMut.{put_mid}
use Rattle.std.proofs.lemmas.List.{map-append, take_more, take-append-drop, nil_from_length, length-drop, length-take, length-take-le, length_push, same_from_push, drop-map, drop_at, drop-drop}
use Rattle.std.proofs.lemmas.List.Concat.{flat_map-append}
use Rattle.std.proofs.lemmas.List.FromFn.{length-enumerate_from, get_or-enumerate_from}
use Rattle.std.proofs.lemmas.Iterator.{YieldsList, YieldsList-from_slice}
use Rattle.std.proofs.lemmas.Iterator.Consumers.{YieldsList-from_copied, YieldsList-from_enumerate, YieldsList-turn, YieldsList-end, YieldsList-at}
use Rattle.std.proofs.iter.Yields.{fronts, copies}
use Rattle.std.specs.Iterator.{Yields}
use Rattle.std.specs.Iterator.Adapters.{copied_source, enumerate_source, enumerate_count, enumerate_steps}
use Rattle.std.specs.Slice.Iter.{iter_rest}
use Rattle.std.specs.declared.iter.Copied.{Copied}
use Rattle.std.specs.declared.iter.Enumerate.{Enumerate}
use Rattle.std.specs.List.{enumerate_from}
use Rattle.std.specs.Simd.{first_chunks}
use Rattle.line.specs.declared.six_bit.SixBit.{SixBit}
use Rattle.line.specs.Values.{number_of, numbers}

-- the groups are the values
pub numbers-groups : (n k : ℕ) (vs : List SixBit) → length vs ≡ k * n → flat_map numbers (first_chunks n k vs) ≡ numbers vs
numbers-groups n zero vs h = ap numbers (sym (nil_from_length vs (omega arith)))
numbers-groups n (suc k) vs h =
    ap (λ xs. numbers (take n vs) ++ xs) (numbers-groups n k (drop n vs) (rw length-drop (omega arith)))
    ∙ sym (map-append number_of (take n vs) (drop n vs))
    ∙ ap numbers (take-append-drop n vs)

-- one more group read
pub groups-more : (groups : List (List SixBit)) (group : List SixBit) (i : ℕ) → i < length groups → group ≡ get_or groups i group
    → flat_map numbers (take (i + 1) groups) ≡ flat_map numbers (take i groups) ++ numbers group
groups-more groups group i h e =
    ap (flat_map numbers) (take_more groups i group h)
    ∙ flat_map-append numbers (take i groups) (get_or groups i group ∷ [])
    ∙ ap (λ xs. flat_map numbers (take i groups) ++ xs) (append-nil (numbers (get_or groups i group)))
    ∙ ap (λ g. flat_map numbers (take i groups) ++ numbers g) (sym e)

-- a loop over a list's elements with their indices
pub numbered : {X : Type 0} {s : Iter X} {t : Copied (Iter X)} {u v : Enumerate (Copied (Iter X))} → (xs : List X) → iter_rest s ≡ xs → copied_source t ≡ s → enumerate_source u ≡ t → enumerate_count u ≡ 0 → v ≡ u
    → YieldsList {B = ℕ × X} (enumerate_steps (copies fronts)) (λ p. (p.0, p.1)) v (enumerate_from 0 xs)
numbered xs rest copied source count same = YieldsList-at same (YieldsList-from_enumerate (YieldsList-at source (YieldsList-from_copied (YieldsList-from_slice xs (cc)))) count)

module _ {X : Type 0} (xs : List X) (s t u : Enumerate (Copied (Iter X))) (road : YieldsList {B = ℕ × X} (enumerate_steps (copies fronts)) (λ p. (p.0, p.1)) s (enumerate_from 0 xs))
    (seen : List (ℕ × X)) (by : Yields (enumerate_steps (copies fronts)) s seen t) (r : Option (ℕ × X)) (step : enumerate_steps (copies fronts) t r u) where
  -- after `seen` the next element comes
  pub numbered_turn : (k : ℕ) (x : X) → r ≡ Some (k, x) → (length seen < length xs) × (k ≡ length seen) × (x ≡ get_or xs (length seen) x)
  numbered_turn k x is =
      let turn = YieldsList-turn road seen t by r u (k, x) is step in
      let at : length seen < length xs = omega (arith, length-enumerate_from 0 xs, turn.0) in
      let same : ◌≡◌ {A = ℕ × X} (k, x) (0 + length seen, get_or xs (length seen) x) = turn.1 ∙ get_or-enumerate_from 0 xs (length seen) (k, x) at in
      (at, ap (λ p. p.0) same ∙ zero-add (length seen), ap (λ p. p.1) same)

  -- and at the end all have come
  pub numbered_end : r ≡ None → length seen ≡ length xs
  numbered_end is = (YieldsList-end road seen t by r u is step).1 ∙ length-enumerate_from 0 xs

-- the last of those that are left of a list's elements
pub last-left : {X : Type 0} (xs left left' : List X) (x d : X) → left ≡ take (length left) xs → left ≡ left' ++ x ∷ []
    → (length left' < length xs) × (length left ≡ length left' + 1) × (left' ≡ take (length left') xs) × (x ≡ get_or xs (length left') d)
last-left xs left left' x d front e =
    let long : length left ≡ length left' + 1 = ap length e ∙ length_push left' x in
    let at : length left' < length xs = omega (arith, ap length front, length-take (length left) xs) in
    let parts = same_from_push left' (take (length left') xs) x (get_or xs (length left') d) (sym e ∙ front ∙ ap (λ n. take n xs) long ∙ take_more xs (length left') d at) in
    (at, long, parts.0, parts.1)

-- what stands from a group on that is written over
pub group-behind : (vs ws : List SixBit) (i k : ℕ) → i ≡ k → 11 * (k + 1) ≤ length vs
    → drop (11 * k) (numbers (put_mid (11 * i) (11 * i + 11 - 11 * i) vs ws)) ≡ numbers ws ++ drop (11 * (k + 1)) (numbers vs)
group-behind vs ws i k e h =
    let place = 11 * k in
    let eleven : 11 * i + 11 - 11 * i ≡ 11 = omega arith in
    let next : place + 11 ≡ 11 * (k + 1) = omega arith in
    ap (λ n. drop place (numbers (put_mid (11 * n) (11 * i + 11 - 11 * i) vs ws))) e
    ∙ ap (λ n. drop place (numbers (put_mid place n vs ws))) eleven
    ∙ drop-map number_of place (put_mid place 11 vs ws)
    ∙ ap numbers (drop_at (take place vs) (ws ++ drop 11 (drop place vs)) place (length-take-le place vs (omega arith)))
    ∙ map-append number_of ws (drop 11 (drop place vs))
    ∙ ap (λ xs. numbers ws ++ numbers xs) (drop-drop 11 place vs ∙ ap (λ n. drop n vs) next)
    ∙ ap (λ xs. numbers ws ++ xs) (sym (drop-map number_of (11 * (k + 1)) vs))
