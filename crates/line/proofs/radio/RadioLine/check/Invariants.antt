use Rattle.std.proofs.Common.{◌≡◌, map, drop}
use Rattle.line.specs.Values.{numbers}
use Rattle.arithmetic.specs.Digits.{bits_of}
use Rattle.line.specs.Radio.{radio_symbol, register_after, register_over}
use Rattle.line.proofs.radio.RadioLine.check.Given as goal

abbrev pub invariant-loop-value : goal.invariant-loop-value
invariant-loop-value l = register_after l.register (bits_of 8 (drop l.value-index (map radio_symbol (numbers l.values)))) ≡ register_over (map radio_symbol (numbers l.values))
