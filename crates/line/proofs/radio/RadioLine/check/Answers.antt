use Rattle.std.proofs.Common.{◌≡◌, ◌/◌, map, ap, ◌∙◌, arith}
use Rattle.line.specs.Values.{numbers}
use Rattle.arithmetic.specs.Digits.{bits_of}
use Rattle.line.specs.Radio.{radio_symbol, radio, register_over}
use Rattle.arithmetic.proofs.Folds.{bits_of-under}
use Rattle.line.proofs.Radios.{radio-step, radio-end}
use Rattle.line.proofs.Registers.{register-remainder}
use Rattle.line.proofs.radio.RadioLine.check.Goals as goal

pub loop-value-preserved : goal.loop-value-preserved
loop-value-preserved c =
    radio-step c.args.values.now c.value-item.result c.loop-value.value-index c.loop-value.register _ _ (omega arith) c.value-item.is c.symbol_of.ensures c.moved_through-register.ensures
    ∙ c.loop-value.invariant

pub returns : goal.returns
returns c =
    let symbols = map radio_symbol (numbers c.args.values.now) in
    let v : c.upper_six.result.number ≡ radio.check (numbers c.args.values.now) =
    c.upper_six.ensures ∙ ap (λ n. n / 4) (radio-end c.args.values.now c.loop-value.value-index c.loop-value.register (omega arith) c.loop-value.invariant) in
    record { value = v; remainder = (register_over symbols, register-remainder (bits_of 8 symbols) (bits_of-under 8 symbols), v) }
