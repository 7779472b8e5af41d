use Rattle.std.proofs.Common.{◌≡◌, ◌++◌, take, drop}
use Rattle.line.specs.Values.{numbers}
use Rattle.wire.specs.Frames.{first_no_symbol, values_of}
use Rattle.wire.proofs.read.decode.Given as goal

abbrev pub invariant-loop-place : goal.invariant-loop-place
invariant-loop-place g l =
    let code = g.L.Line.code l.line in
    (first_no_symbol code l.place (drop l.place l.frame) ≡ first_no_symbol code 0 l.frame)
    × (take l.place (numbers l.values) ++ values_of code (drop l.place l.frame) ≡ values_of code l.frame)
