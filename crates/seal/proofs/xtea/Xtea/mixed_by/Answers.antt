use Rattle.std.proofs.Common.{rules, refl, ◌∙◌, arith}
use Rattle.std.proofs.lemmas.Iterator.{YieldsList-from_range}
use Rattle.std.proofs.lemmas.Iterator.Consumers.{fold_from_yields_List}
use Rattle.seal.specs.Xtea.{mixed_by}
use Rattle.seal.proofs.Rounds.{fold-mixed}
use Rattle.seal.proofs.xtea.Xtea.mixed_by.Goals as goal

pub returns : goal.returns
unfolding mixed_by
returns c =
    fold_from_yields_List _ _ _ _ c.fold.ensures.ran (YieldsList-from_range 0 _ c.args.count refl (omega arith)) (λ a x b q k. search rules)
    ∙ fold-mixed c.args.self.now.key 0 c.args.count c.args.count c.args.words (omega arith)
