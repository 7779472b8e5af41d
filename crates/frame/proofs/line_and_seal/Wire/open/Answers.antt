use Rattle.frame.specs.Frames.{wire_over}
use Rattle.frame.proofs.Outcomes.{well-formed, builds-again, opens-alone}
use Rattle.frame.proofs.line_and_seal.Wire.open.Goals as goal

pub returns-clause-formed : goal.returns-clause-formed
returns-clause-formed g c = well-formed (wire_over g.L.Line.code g.S.Seal.code c.args.self) _ _ c.args.frame.now c.open_into.new.work c.open_into.result c.open_into.ensures

pub returns-clause-again : goal.returns-clause-again
returns-clause-again g c =
    builds-again (wire_over g.L.Line.code g.S.Seal.code c.args.self) (g.met.S.Seal.lawful c.args.self.seal.now) _ _ c.args.frame.now c.open_into.new.work c.open_into.result c.open_into.ensures

pub returns-clause-alone : goal.returns-clause-alone
returns-clause-alone g c =
    opens-alone (wire_over g.L.Line.code g.S.Seal.code c.args.self) (g.met.S.Seal.lawful c.args.self.seal.now) _ _ c.args.frame.now c.open_into.new.work c.open_into.result c.open_into.ensures
