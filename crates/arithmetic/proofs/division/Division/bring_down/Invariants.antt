use Rattle.std.proofs.Common.{◌≡◌}
use Rattle.arithmetic.specs.Digits.{digits}
use Rattle.arithmetic.specs.Bits.{bits_left}
use Rattle.arithmetic.specs.Division.{remainder_after}
use Rattle.arithmetic.proofs.division.Division.bring_down.Given as goal

abbrev pub invariant-loop-bit : goal.invariant-loop-bit
invariant-loop-bit l =
    let d = l.fn.self in
    (l.division.degree ≡ d.degree) × (l.division.divisor ≡ d.divisor)
    × (remainder_after d.degree d.divisor l.division.rest (bits_left l.bit-iterator) ≡ remainder_after d.degree d.divisor d.rest (digits 2 d.degree l.value))
