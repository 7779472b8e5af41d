use Rattle.std.proofs.Common.{◌≡◌, ◌-◌, ◌*◌, length, replicate, arith}
use Rattle.std.proofs.lemmas.List.{take_at}
use Rattle.frame.specs.Payloads.{with_check_byte}
use Rattle.frame.proofs.payload.sealed_body.Goals as goal

pub returns-clause-closed : goal.returns-clause-closed
returns-clause-closed g c =
    let behind = c.args.behind.now in
    let end : 8 * c.args.size.count - 0 ≡ 8 * c.args.size.count = omega arith in
    let front = take_at (with_check_byte behind) (replicate (23 - length behind) 0) (8 * c.args.size.count) (omega arith) in
    cc
