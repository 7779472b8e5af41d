use Rattle.std.proofs.Common.{rules}
use Rattle.arithmetic.proofs.Folds.{byte-step}
use Rattle.arithmetic.proofs.bits.BitsIterator.next.Goals as goal

pub returns-clause-steps : goal.returns-clause-steps
returns-clause-steps c =
    let taken = c.in_ok-self.ensures in
    let bits = c.args.self.now in
    let step = byte-step bits.number bits.left c.in_ok-self.field-0 c.checked_shr.result (search rules) taken.0 taken.1 c.checked_shr.ensures in
    rw c.unwrap_or.ensures step
