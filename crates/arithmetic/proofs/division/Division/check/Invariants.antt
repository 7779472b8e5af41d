use Rattle.std.proofs.Common.{◌≡◌, map, drop}
use Rattle.arithmetic.specs.Division.{remainder_after, check_message}
use Rattle.arithmetic.proofs.division.Division.check.Given as goal

abbrev pub invariant-loop-number : goal.invariant-loop-number
invariant-loop-number g l =
    let d = l.fn.self in
    let ns = map g.N.Numbered.number l.numbers in
    (l.divided.degree ≡ d.degree) × (l.divided.divisor ≡ d.divisor)
    × (remainder_after d.degree d.divisor l.divided.rest (check_message d.degree (drop l.number-index ns)) ≡ remainder_after d.degree d.divisor d.rest (check_message d.degree ns))
