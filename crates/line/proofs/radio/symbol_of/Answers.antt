use Rattle.std.proofs.Common.{refl}
use Rattle.line.specs.Radio.{radio_symbols, radio_symbol}
use Rattle.line.proofs.radio.symbol_of.Goals as goal

pub returns : goal.returns
unfolding radio_symbol radio_symbols
returns c = refl
