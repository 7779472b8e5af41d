use Rattle.std.proofs.Common.{◌≡◌, ◌<◌, ◌/◌, length, arith}
use Rattle.std.proofs.ByRecursion.{All-from_get_or}
use Rattle.std.proofs.lemmas.List.{take_all}
use Rattle.frame.proofs.Blocks.{blocks_chunks}
use Rattle.frame.proofs.payload.close_blocks.Goals as goal

pub returns-clause-closed : goal.returns-clause-closed
returns-clause-closed g c =
    let f = (g.S.Seal.code c.args.seal.now).closed in
    let size = c.args.size.count in
    let payload = c.args.payload.now in
    let count : c.loop-k.k ≡ size = omega arith in
    let chunks : length payload / 8 ≡ size = omega arith in
    let all = take_all c.loop-k.k c.as_chunks.result.0.now (omega arith) in
    let blocks = blocks_chunks f size payload (omega arith) (All-from_get_or (λ b. b < 256) payload 0 (λ i h. (c.type_inv.payload i).fits)) in
    cc
