use Rattle.std.proofs.Common.{refl, length-set, rules}
use Rattle.line.proofs.Radios.{reads_none, reads_more}
use Rattle.line.proofs.radio.filled_below.Goals as goal

pub loop-number-init : goal.loop-number-init
loop-number-init c = (refl, reads_none)

pub loop-number-preserved : goal.loop-number-preserved
loop-number-preserved c = (
  simp length-set c.loop-number.invariant.0,
  reads_more c.loop-number.number _ _ c.loop-number.values c.loop-number.invariant.0 refl c.symbol_of.ensures (search rules) c.loop-number.invariant.1,
)
