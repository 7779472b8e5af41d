use Rattle.std.proofs.Common.{◌∙◌}
use Rattle.seal.specs.Laws.{mixed-cycles}
use Rattle.seal.proofs.xtea.Xtea.cycle.Goals as goal

pub returns : goal.returns
returns c = c.mixed_by.ensures ∙ mixed-cycles c.args.self.now.key 32 c.args.words
