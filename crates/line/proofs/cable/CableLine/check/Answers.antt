use Rattle.std.proofs.Common.{arith}
use Rattle.arithmetic.proofs.Dividing.{check-remainder}
use Rattle.line.specs.Values.{numbers}
use Rattle.line.proofs.cable.CableLine.check.Goals as goal

pub returns-clause-remainder : goal.returns-clause-remainder
returns-clause-remainder c = check-remainder 6 0x43 (omega arith) (omega arith) (numbers c.args.values.now) _ c.check.ensures.value
