use Rattle.std.proofs.Common.{◌≡◌, take}
use Rattle.std.specs.Int.Digits.{number_from_digits}
use Rattle.line.specs.Values.{numbers}
use Rattle.fields.proofs.numbers.number_of.Given as goal

abbrev pub invariant-loop-value : goal.invariant-loop-value
invariant-loop-value l = l.sum ≡ number_from_digits 64 (numbers (take l.value-index l.values))
