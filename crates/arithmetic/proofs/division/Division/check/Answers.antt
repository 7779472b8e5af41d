use Rattle.std.proofs.Common.{ℕ, ◌^◌, ◌<◌, map, sym, ap, ◌∙◌, subst, arith}
use Rattle.std.proofs.lemmas.List.{length-map, get_or-map}
use Rattle.arithmetic.proofs.Dividing.{division-more, division-end}
use Rattle.arithmetic.proofs.division.Division.check.Goals as goal

pub loop-number-preserved : goal.loop-number-preserved
loop-number-preserved g c =
    let d = c.args.self in
    let i = c.loop-number.invariant in
    let b = c.bring_down-divided.ensures in
    let ns = map g.N.Numbered.number c.args.numbers.now in
    let at = c.number.ensures ∙ ap g.N.Numbered.number c.number-item.is ∙ sym (get_or-map g.N.Numbered.number c.args.numbers.now c.loop-number.number-index _ 0 (omega arith)) in (
      b.degree ∙ i.0,
      b.divisor ∙ i.1,
      division-more d.degree d.divisor ns _ c.loop-number.number-index c.loop-number.divided.rest _ (rw length-map (omega arith)) at i.0 i.1 b.rest ∙ i.2,
    )

pub returns : goal.returns
returns g c =
    let d = c.args.self in
    let i = c.loop-number.invariant in
    let ns = map g.N.Numbered.number c.args.numbers.now in
    let end = division-end d.degree d.divisor ns c.loop-number.number-index c.loop-number.divided.rest _ _ _ (rw length-map (omega arith)) i.0 i.1 i.2 in
    record {
      value = c.remainder.ensures ∙ c.bring_down.ensures.rest ∙ end;
      below = rw c.remainder.ensures (subst (λ (degree : ℕ). c.bring_down.result.rest < 2 ^ degree) (c.bring_down.ensures.degree ∙ i.0) c.bring_down.result.below);
    }
