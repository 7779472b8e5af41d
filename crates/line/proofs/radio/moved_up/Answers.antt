use lib.Bits.{xor_zero_r}
use Rattle.std.proofs.lemmas.Bool.{eq-eqb, ne_eqb}
use Rattle.line.specs.Radio.{moved_up}
use Rattle.line.proofs.radio.moved_up.Goals as goal

pub returns-then-register-bit : goal.returns-then-register-bit
unfolding moved_up
returns-then-register-bit c = rw (eq-eqb _ _ c.if-register-bit.true, xor_zero_r)

pub returns-else-register-bit : goal.returns-else-register-bit
unfolding moved_up
returns-else-register-bit c = rw (ne_eqb _ _ c.if-register-bit.false)
