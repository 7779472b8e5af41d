use Rattle.std.proofs.Common.{get_or, Some, None, sym, ap, ◌∙◌, arith}
use Rattle.std.specs.Option.{option_map}
use Rattle.line.specs.Values.{number_of}
use Rattle.line.proofs.Codes.{read-value}
use Rattle.wire.specs.declared.fault.LineFault.TheVariants.{NoSymbol}
use Rattle.wire.proofs.Reading.{no-symbol-here, symbol-here, value-more}
use Rattle.wire.proofs.read.decode.Goals as goal

pub returns-in-None : goal.returns-in-None
returns-in-None g c =
    let code = g.L.Line.code c.args.line.now in
    let lawful = g.met.L.Line.lawful c.args.line.now in
    let bytes = c.args.frame.now in
    let i = c.loop-place.place in
    ap (option_map NoSymbol) (sym c.loop-place.invariant.0 ∙ no-symbol-here code bytes i (omega arith) (read-value code lawful (get_or bytes i 0) None c.in-None.ensures))

pub loop-place-preserved : goal.loop-place-preserved
loop-place-preserved g c =
    let code = g.L.Line.code c.args.line.now in
    let lawful = g.met.L.Line.lawful c.args.line.now in
    let bytes = c.args.frame.now in
    let i = c.loop-place.place in
    let v = c.in-Some.value in
    let e = read-value code lawful (get_or bytes i 0) (Some (number_of v)) c.in-Some.ensures in (
      symbol-here code bytes i (number_of v) (omega arith) e ∙ c.loop-place.invariant.0,
      value-more code bytes i c.loop-place.values v _ (omega arith) (omega arith) e c.loop-place.invariant.1,
    )
