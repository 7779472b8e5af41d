use Rattle.std.proofs.Common.{◌≡◌, ◌*◌, ◌++◌, take, drop}
use Rattle.frame.specs.Payloads.{opened_from}
use Rattle.frame.proofs.payload.put_blocks.Given as goal

abbrev pub invariant-loop-k : goal.invariant-loop-k
invariant-loop-k g l = l.work ≡ opened_from (g.S.Seal.code l.seal) l.k (take l.k l.blocks) ++ drop (8 * l.k) l.initial.work
