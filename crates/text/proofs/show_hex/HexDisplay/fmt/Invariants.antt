use Rattle.std.proofs.Common.{◌-◌, take}
use Rattle.std.specs.Fmt.{HasWritten, IsPlainFormatter}
use Rattle.text.specs.Hexadecimal.{hex}
use Rattle.text.proofs.show_hex.HexDisplay.fmt.Given as goal

abbrev pub invariant-loop-place : goal.invariant-loop-place
invariant-loop-place g l =
    IsPlainFormatter l.initial.f → HasWritten g.W.Write.write_str_gives l.initial.f (take (g.row.DIGITS - l.place) (hex g.row.DIGITS l.self.0)) l.f
