use Rattle.std.proofs.Common.{◌^◌, ◌<◌, ◌≤◌, refl, arith}
use Rattle.std.proofs.lemmas.Nat.{one_shl}
use Rattle.std.proofs.lemmas.Bool.{cond_below, cond_above}
use Rattle.arithmetic.specs.Division.{reduced}
use Rattle.arithmetic.proofs.Sums.{leading-lost}
use Rattle.arithmetic.proofs.division.Division.reduced.Goals as goal

pub returns-then-x-self : goal.returns-then-x-self
unfolding reduced
returns-then-x-self c =
    let d = c.args.self.degree in
    let power = one_shl d 16 (omega arith) in
    let small : c.args.x < 2 ^ d = omega arith in
    record { value = cond_below c.args.x (2 ^ d) _ _ small; below = small }

pub returns-else-x-self : goal.returns-else-x-self
unfolding reduced
returns-else-x-self c =
    let d = c.args.self.degree in
    let power = one_shl d 16 (omega arith) in
    let large : 2 ^ d ≤ c.args.x = omega arith in
    record {
      value = cond_above c.args.x (2 ^ d) _ _ _ large refl;
      below = leading-lost d c.args.x c.args.self.divisor large (omega arith) (omega arith) (omega arith);
    }
