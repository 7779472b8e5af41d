use Rattle.std.proofs.Common.{◌≡◌, length}
use Rattle.line.specs.Radio.{ReadsBelow}
use Rattle.line.proofs.radio.filled_below.Given as goal

abbrev pub invariant-loop-number : goal.invariant-loop-number
invariant-loop-number l = (length l.values ≡ 256) × ReadsBelow l.number l.values
