use Rattle.std.proofs.Common.{◌≡◌, ◌^◌, length, take, flat_map}
use Rattle.line.specs.Values.{numbers}
use Rattle.fields.proofs.Cuts.{CutSoFar}
use Rattle.fields.proofs.read.cut_body.Given as goal

abbrev pub invariant-loop-k : goal.invariant-loop-k
invariant-loop-k l = record {
  cut : CutSoFar (flat_map numbers (take (length l.yielded) l.groups)) l.closed (length l.yielded) l.rest;
  room : l.spare ≡ 4 ^ length l.yielded;
}
