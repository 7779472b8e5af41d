use Rattle.std.proofs.Common.{◌≡◌, length, take}
use Rattle.std.specs.Iterator.Adapters.{rev_source, enumerate_source, enumerate_count}
use Rattle.std.specs.Slice.Iter.{iter_rest}
use Rattle.line.specs.Values.{numbers}
use Rattle.fields.specs.Bodies.{blocks_of}
use Rattle.fields.proofs.Cuts.{PutSoFar}
use Rattle.fields.proofs.write.put_body.Given as goal

abbrev pub invariant-loop-k : goal.invariant-loop-k
invariant-loop-k l =
    let left = iter_rest (enumerate_source (rev_source l.k-iterator)) in
    record {
      counted : enumerate_count (rev_source l.k-iterator) ≡ 0;
      front : left ≡ take (length left) (blocks_of l.body);
      put : PutSoFar l.body.size.count (blocks_of l.body) l.body.filling (numbers l.values) (length left) l.rest;
    }
