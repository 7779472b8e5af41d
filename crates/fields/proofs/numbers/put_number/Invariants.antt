use Rattle.fields.proofs.Places.{Written}
use Rattle.fields.proofs.numbers.put_number.Given as goal

abbrev pub invariant-loop-i : goal.invariant-loop-i
invariant-loop-i l = Written l.number l.values l.i l.high
