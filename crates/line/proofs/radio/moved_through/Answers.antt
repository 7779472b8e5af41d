use Rattle.std.proofs.Common.{rules}
use Rattle.std.proofs.lemmas.Iterator.Consumers.{YieldsList-from_first, fold_from_yields_List}
use Rattle.arithmetic.specs.Digits.{digits}
use Rattle.arithmetic.specs.Bits.{bits_left}
use Rattle.line.specs.Radio.{moved_up}
use Rattle.line.proofs.radio.moved_through.Goals as goal

pub returns : goal.returns
returns c = fold_from_yields_List _ moved_up c.args.register _ c.fold.ensures.ran (YieldsList-from_first (λ x. x) bits_left (digits 2 8 c.args.byte) c.lowest.ensures) (λ a x b q k. search rules)
