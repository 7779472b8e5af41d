-- Six-bit values as numbers. Assumes nothing.
use Rattle.std.specs.Prelude.{◌≡◌, ℕ, ◌<◌, List, length, slice_index, slice_index_or}
use Rattle.std.proofs.Common.{ap, sym, ◌∙◌}
use Rattle.std.proofs.lemmas.List.{get_or-map}
use Rattle.line.specs.declared.six_bit.SixBit.{SixBit}
use Rattle.line.specs.Values.{number_of, numbers}

-- the number of the value that a loop reads at i
pub number_at : (vs : List SixBit) (v : SixBit) (i : ℕ) → i < length vs → v ≡ slice_index_or vs i v → number_of v ≡ slice_index (numbers vs) i
number_at vs v i h e = ap number_of e ∙ sym (get_or-map number_of vs i v 0 h)
