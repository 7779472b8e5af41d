use Rattle.std.proofs.Common.{◌≡◌, ◌-◌, length, drop}
use Rattle.text.specs.Hexadecimal.{hex}
use Rattle.text.proofs.write_hex.hex.Given as goal

abbrev pub invariant-loop-place : goal.invariant-loop-place
invariant-loop-place g l = (length l.digits ≡ g.row.DIGITS) × (drop (g.row.DIGITS - l.place) l.digits ≡ hex l.place l.number)
