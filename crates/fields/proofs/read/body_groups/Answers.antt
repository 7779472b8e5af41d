use Rattle.std.proofs.Common.{◌≡◌, ◌-◌, ◌*◌, ◌/◌, length, take, drop, flat_map, sym, ap, ◌∙◌, arith}
use Rattle.std.proofs.lemmas.List.{length-drop, take_rest, drop-map}
use Rattle.line.specs.Values.{number_of, numbers}
use Rattle.fields.proofs.Groups.{numbers-groups}
use Rattle.fields.proofs.Made.{blocks-counted}
use Rattle.fields.proofs.read.body_groups.Goals as goal

pub returns-clause-values : goal.returns-clause-values
returns-clause-values c =
    let vs = c.as_slice.result.now in
    let behind = take (length vs - 15) (drop 15 vs) in
    let counted = blocks-counted (length vs) c.as_slice.ensures.whole in
    let whole : length behind ≡ length behind / 11 * 11 = omega (arith, ap length (take_rest vs 15), length-drop 15 vs) in
    ap (flat_map numbers) c.as_chunks.ensures.front
    ∙ numbers-groups 11 (length behind / 11) behind whole
    ∙ ap numbers (take_rest vs 15)
    ∙ sym (drop-map number_of 15 vs)
    ∙ ap (drop 15) c.as_slice.ensures.values
