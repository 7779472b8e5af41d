use Rattle.wire.proofs.Carrying.{read-written, carries-back}
use Rattle.wire.proofs.carry.Goals as goal

pub returns : goal.returns
returns g c =
    let a = g.A.Line.code c.args.from.now in
    let b = g.B.Line.code c.args.to.now in
    let read = c.in_ok-values.ensures in
    let carried = read-written a b c.args.frame.now c.args.out.now c.write.new.out c.in_ok-values.values c.in_ok-write.field-0 read c.in_ok-write.ensures in
    record {
      carried = carried;
      back = carries-back a b (g.met.B.Line.lawful c.args.to.now) c.args.frame.now c.args.out.now c.write.new.out c.in_ok-values.values c.in_ok-write.field-0 read carried;
    }
