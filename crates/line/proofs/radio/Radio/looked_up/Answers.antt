use Rattle.std.proofs.Common.{rules}
use Rattle.line.proofs.Radios.{reads}
use Rattle.line.proofs.radio.Radio.looked_up.Goals as goal

pub returns : goal.returns
returns c = reads c.args.self.now.values (search rules) c.args.self.now.inverse c.args.byte (search rules) c.index-self-byte.result
