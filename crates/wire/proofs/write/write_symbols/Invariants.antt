use Rattle.std.proofs.Common.{◌≡◌, map, take}
use Rattle.line.specs.Values.{numbers}
use Rattle.wire.proofs.write.write_symbols.Given as goal

abbrev pub invariant-loop-place : goal.invariant-loop-place
invariant-loop-place g l = take l.place l.out ≡ take l.place (map (g.L.Line.code l.line).symbol (numbers l.values))
