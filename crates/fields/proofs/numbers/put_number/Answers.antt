use Rattle.std.proofs.Common.{arith}
use Rattle.fields.proofs.Places.{digits-more}
use Rattle.fields.proofs.numbers.put_number.Goals as goal

pub loop-i-preserved : goal.loop-i-preserved
loop-i-preserved c = digits-more c.args.number c.loop-i.values c.lowest.result c.loop-i.i c.loop-i.high (omega arith) (omega arith) c.lowest.ensures c.loop-i.invariant
