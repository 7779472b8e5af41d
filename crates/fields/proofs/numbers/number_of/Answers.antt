use Rattle.std.proofs.Common.{◌≡◌, ap, ◌∙◌, arith}
use Rattle.std.proofs.lemmas.List.{take_all}
use Rattle.std.specs.Int.Digits.{number_from_digits}
use Rattle.line.specs.Values.{numbers}
use Rattle.fields.proofs.Places.{number-below}
use Rattle.fields.proofs.numbers.number_of.Goals as goal

pub returns : goal.returns
returns c =
    let vs = c.args.values.now in
    let whole : c.loop-value.sum ≡ number_from_digits 64 (numbers vs) = c.loop-value.invariant ∙ ap (λ xs. number_from_digits 64 (numbers xs)) (take_all c.loop-value.value-index vs (omega arith)) in
    record { value = whole; below = rw whole (number-below vs) }
