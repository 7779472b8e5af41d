use Rattle.std.proofs.Common.{◌∙◌, ap, arith}
use Rattle.std.proofs.lemmas.List.{map-id}
use Rattle.arithmetic.specs.Division.{check_of}
use Rattle.arithmetic.proofs.Dividing.{check-remainder}
use Rattle.frame.proofs.payload.check_byte.Goals as goal

pub returns-clause-remainder : goal.returns-clause-remainder
returns-clause-remainder c = check-remainder 8 0x107 (omega arith) (omega arith) c.args.behind.now _ (c.check.ensures.value ∙ ap (check_of 8 0x107) (map-id c.args.behind.now))
