-- The steps of writing a frame's symbols. Assumes nothing.
use Rattle.std.proofs.Common.{◌≡◌, ℕ, ◌+◌, ◌<◌, List, [], ◌∷◌, ◌++◌, map, length, get_or, take, set, sym, ap, ◌∙◌}
use Rattle.std.proofs.lemmas.List.{take_more, take_more_set, length-map, get_or-map}
use Rattle.line.specs.declared.six_bit.SixBit.{SixBit}
use Rattle.line.specs.Values.{number_of, numbers}
use Rattle.line.proofs.Numbers.{number_at}

module _ (f : ℕ → ℕ) (vs : List SixBit) (out : List ℕ) (i : ℕ) where
  -- one more symbol written
  pub symbol-more : (v : SixBit) (s : ℕ) → i < length out → i < length vs → v ≡ get_or vs i v → s ≡ f (number_of v)
      → take i out ≡ take i (map f (numbers vs))
      → take (i + 1) (set out i s) ≡ take (i + 1) (map f (numbers vs))
  symbol-more v s ho hv ev es inv =
      let n : i < length (numbers vs) = rw length-map hv in
      let at : s ≡ get_or (map f (numbers vs)) i 0 = es ∙ ap f (number_at vs v i hv ev) ∙ sym (get_or-map f (numbers vs) i 0 0 n) in
      take_more_set out i s ho
      ∙ ap (λ xs. xs ++ s ∷ []) inv
      ∙ ap (λ y. take i (map f (numbers vs)) ++ y ∷ []) at
      ∙ sym (take_more (map f (numbers vs)) i 0 (rw length-map n))
