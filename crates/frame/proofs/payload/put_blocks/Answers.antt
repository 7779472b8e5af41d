use Rattle.std.proofs.Common.{arith}
use Rattle.std.proofs.lemmas.Grind.{common_steps}
use Rattle.arithmetic.proofs.Bases.{length_digits}
use Rattle.frame.proofs.Blocks.{opened_more}
use Rattle.frame.proofs.payload.put_blocks.Goals as goal

pub loop-k-preserved : goal.loop-k-preserved
loop-k-preserved g c = grind (arith, common_steps, opened_more, length_digits)
