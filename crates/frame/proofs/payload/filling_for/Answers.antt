use Rattle.std.proofs.Common.{◌-◌, ◌*◌, ◌^◌, ◌<◌, arith}
use Rattle.std.proofs.Math.Nat.{pow-le-pow_right}
use Rattle.frame.proofs.Blocks.{technique-fits}
use Rattle.frame.proofs.payload.filling_for.Given as given
use Rattle.frame.proofs.payload.filling_for.Goals as goal

pub pow-requires : goal.pow-requires
pow-requires g c = let most = pow-le-pow_right {n = 4} (omega arith) {i = c.args.size.count - 1} {j = 2} (omega arith) in omega arith

below : (g : given.Over) (c : goal.After-pow g) → c.technique.result * c.pow.result < 4 ^ c.args.size.count
below g c = technique-fits _ _ c.args.size.count (rw c.technique.ensures (g.met.S.Seal.lawful c.args.seal.now).two_bits) c.args.size.some c.pow.ensures

pub overflow_mul-result : goal.overflow_mul-result
overflow_mul-result g c = let most = pow-le-pow_right {n = 4} (omega arith) {i = c.args.size.count} {j = 3} (omega arith) in record { fits = omega (arith, below g c) }

pub returns-clause-fits : goal.returns-clause-fits
returns-clause-fits g c = below g c
