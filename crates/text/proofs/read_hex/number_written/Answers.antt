use Rattle.std.proofs.Common.{get_or, sym, arith}
use Rattle.text.proofs.Reading.{digit-below, fifteen-below}
use Rattle.text.proofs.read_hex.number_written.Goals as goal

pub overflow_mul-number : goal.overflow_mul-number
overflow_mul-number c = omega (arith, fifteen-below c.loop-digit.digit-index c.loop-digit.number c.loop-digit.invariant.0 (omega arith))

pub overflow_add-number : goal.overflow_add-number
overflow_add-number c = omega (arith, fifteen-below c.loop-digit.digit-index c.loop-digit.number c.loop-digit.invariant.0 (omega arith), digit-below (get_or c.args.digits.now c.loop-digit.digit-index 0) c.in_ok-value.value (sym c.in_ok-value.ensures))
