use Rattle.std.proofs.Common.{◌≡◌, map, length, take, drop, w64}
use Rattle.std.specs.Int.{from_be_bytes}
use Rattle.frame.proofs.payload.close_blocks.Given as goal

abbrev pub invariant-loop-k : goal.invariant-loop-k
invariant-loop-k g l = record {
  long : length l.closed ≡ 3;
  front : take l.k l.closed ≡ map (λ bytes. (g.S.Seal.code l.seal).closed (from_be_bytes w64 bytes)) (take l.k l.blocks);
  behind : drop l.k l.closed ≡ drop l.k l.initial.closed;
}
