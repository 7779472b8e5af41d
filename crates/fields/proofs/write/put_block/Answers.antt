use Rattle.std.proofs.Common.{◌≡◌, ◌+◌, ◌*◌, arith}
use Rattle.std.specs.Int.Digits.{number_from_digits}
use Rattle.arithmetic.specs.Digits.{digits}
use Rattle.arithmetic.proofs.Bases.{number_digits}
use Rattle.line.specs.Values.{numbers}
use Rattle.fields.proofs.write.put_block.Goals as goal

pub returns-clause-whole : goal.returns-clause-whole
returns-clause-whole c =
    let bits = c.args.block * c.args.spare + c.args.rest in
    let same : c.from.result * c.args.spare + c.from-2.result ≡ bits = cc in
    let last : number_from_digits 64 (numbers c.put_number.new.values) ≡ number_from_digits 64 (digits 64 11 bits) = cc in
    omega (arith, number_digits 64 (omega arith) 11 bits)
