use Rattle.std.proofs.Common.{◌<◌}
use Rattle.std.proofs.ByRecursion.{All-from_get_or}
use Rattle.frame.specs.Frames.{wire_over}
use Rattle.frame.proofs.Outcomes.{built-frame, opens-again, built-alone}
use Rattle.frame.proofs.line_and_seal.Wire.build.Goals as goal

pub returns-clause-built : goal.returns-clause-built
returns-clause-built g c =
    let sealed = c.sealed_body.ensures in
    built-frame (wire_over g.L.Line.code g.S.Seal.code c.args.self) c.args.header.now c.args.behind.now c.args.out.now c.write.new.out c.in_ok-size.size c.sealed_body.result c.in_ok-write.field-0
    c.in_ok-size.ensures sealed.size sealed.closed sealed.filling (rw c.values.ensures at c.in_ok-write.ensures)

pub returns-clause-opens : goal.returns-clause-opens
returns-clause-opens g c =
    opens-again (wire_over g.L.Line.code g.S.Seal.code c.args.self) c.args.header.now c.args.behind.now c.args.out.now c.write.new.out c.in_ok-write.field-0 (returns-clause-built g c)
    (g.met.L.Line.lawful c.args.self.line.now) (g.met.S.Seal.lawful c.args.self.seal.now) (All-from_get_or (λ b. b < 256) c.args.behind.now 0 (λ i h. (c.type_inv.behind i).fits))

pub returns-clause-alone : goal.returns-clause-alone
returns-clause-alone g c =
    built-alone (wire_over g.L.Line.code g.S.Seal.code c.args.self) c.args.header.now c.args.behind.now c.args.out.now c.write.new.out c.in_ok-write.field-0 (returns-clause-built g c)
    (g.met.S.Seal.lawful c.args.self.seal.now)
