-- The values of a frame put together. Assumes nothing.
use Rattle.std.proofs.Common.{◌≡◌, ℕ, ◌+◌, ◌-◌, ◌*◌, ◌/◌, ◌≤◌, true, List, ◌++◌, length, drop, [], ap, ◌∙◌, arith}
use borrow.Rule.Slice.PartMut.{put_mid}
use Rattle.std.proofs.lemmas.List.{take_at, drop_all, append-nil, length-drop, map-append}
use Rattle.std.proofs.lemmas.Bool.Decides.{nat_tests}
use Rattle.line.specs.declared.six_bit.SixBit.{SixBit}
use Rattle.line.specs.Values.{number_of, numbers}
use Rattle.wire.specs.Frames.{frame_length}

pub blocks-length : (n : ℕ) → 1 ≤ n → n ≤ 3 → frame_length (15 + 11 * n) ≡ true
blocks-length n some few = grind (arith, nat_tests)

-- how many blocks a frame of so many values has
pub blocks-counted : (m : ℕ) → frame_length m ≡ true → (m ≡ 15 + 11 * ((m - 15) / 11)) × (1 ≤ (m - 15) / 11) × ((m - 15) / 11 ≤ 3)
blocks-counted m e = (grind (arith, nat_tests), grind (arith, nat_tests), grind (arith, nat_tests))

-- a second part written behind the first, up to the end
pub parts-joined : (front rest ws : List SixBit) (place : ℕ) → length front ≡ place → numbers (put_mid place (length (front ++ rest) - place) (front ++ rest) ws) ≡ numbers front ++ numbers ws
parts-joined front rest ws place long =
    let end : drop (length (front ++ rest) - place) (drop place (front ++ rest)) ≡ [] = drop_all (length (front ++ rest) - place) (drop place (front ++ rest)) (rw length-drop (omega arith)) in
    ap (λ xs. numbers (xs ++ (ws ++ drop (length (front ++ rest) - place) (drop place (front ++ rest))))) (take_at front rest place long)
    ∙ ap (λ xs. numbers (front ++ (ws ++ xs))) end
    ∙ ap (λ xs. numbers (front ++ xs)) (append-nil ws)
    ∙ map-append number_of front ws
