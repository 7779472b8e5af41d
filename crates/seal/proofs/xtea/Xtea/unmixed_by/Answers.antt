use Rattle.std.proofs.Common.{rules, ◌∙◌}
use Rattle.std.proofs.lemmas.Iterator.Consumers.{fold_from_yields_List}
use Rattle.seal.proofs.Rounds.{YieldsList-from_rev_range, fold-unmixed}
use Rattle.seal.proofs.xtea.Xtea.unmixed_by.Goals as goal

pub returns : goal.returns
returns c =
    fold_from_yields_List _ _ _ _ c.fold.ensures.ran (YieldsList-from_rev_range c.args.count c.rev.ensures.source) (λ a x b q k. search rules)
    ∙ fold-unmixed c.args.self.now.key c.args.count c.args.words
