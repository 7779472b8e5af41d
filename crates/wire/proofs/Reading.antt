-- The steps of reading a frame's symbols. Assumes nothing.
use Rattle.std.proofs.Common.{◌≡◌, ℕ, ◌+◌, ◌<◌, List, ◌∷◌, ◌++◌, length, get_or, take, drop, set, Some, None, unwrap_or, sym, ap, ◌∙◌, append_assoc}
use Rattle.std.proofs.lemmas.List.{drop_more, take_more_set, map-set, length-map}
use Rattle.line.specs.declared.six_bit.SixBit.{SixBit}
use Rattle.line.specs.Values.{number_of, numbers}
use Rattle.line.specs.Code.{LineCode, value_of}
use Rattle.wire.specs.Frames.{first_no_symbol, values_of}

module _ (code : LineCode) (bytes : List ℕ) (i : ℕ) where
  pub no-symbol-here : i < length bytes → None ≡ value_of code (get_or bytes i 0) → first_no_symbol code i (drop i bytes) ≡ Some i
  no-symbol-here h e = rw (drop_more bytes i 0, ← e)

  pub symbol-here : (v : ℕ) → i < length bytes → Some v ≡ value_of code (get_or bytes i 0) → first_no_symbol code (i + 1) (drop (i + 1) bytes) ≡ first_no_symbol code i (drop i bytes)
  symbol-here v h e = rw (drop_more bytes i 0, ← e)

  -- one more value put down, and what is still to be read
  pub value-more : (vs : List SixBit) (v : SixBit) (whole : List ℕ) → i < length bytes → i < length vs → Some (number_of v) ≡ value_of code (get_or bytes i 0)
      → take i (numbers vs) ++ values_of code (drop i bytes) ≡ whole
      → take (i + 1) (numbers (set vs i v)) ++ values_of code (drop (i + 1) bytes) ≡ whole
  value-more vs v whole h k e inv =
      let n : i < length (numbers vs) = rw length-map k in
      let rest : values_of code (drop i bytes) ≡ number_of v ∷ values_of code (drop (i + 1) bytes) =
      ap (values_of code) (drop_more bytes i 0 h) ∙ ap (λ o. unwrap_or o 0 ∷ values_of code (drop (i + 1) bytes)) (sym e) in
      rw (map-set number_of vs i v, take_more_set (numbers vs) i (number_of v) n, append_assoc) (ap (λ ns. take i (numbers vs) ++ ns) (sym rest) ∙ inv)
