use Rattle.std.proofs.Common.{arith}
use Rattle.wire.proofs.Writing.{symbol-more}
use Rattle.wire.proofs.write.write_symbols.Goals as goal

pub loop-place-preserved : goal.loop-place-preserved
loop-place-preserved g c =
    symbol-more (g.L.Line.code c.args.line.now).symbol c.args.values.now c.loop-place.out c.loop-place.place c.index-values-place.result c.symbol.result (omega arith) (omega arith) c.index-values-place.is c.symbol.ensures c.loop-place.invariant
