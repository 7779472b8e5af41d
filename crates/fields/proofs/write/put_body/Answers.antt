use Rattle.std.proofs.Common.{rules, ◌≡◌, ◌+◌, ◌^◌, length, ap, ◌∙◌, arith}
use Rattle.std.specs.Iterator.Adapters.{rev_source, enumerate_source}
use Rattle.std.specs.Slice.Iter.{iter_rest}
use Rattle.line.specs.Values.{numbers, number_of}
use Rattle.std.proofs.lemmas.List.{length-map, length-take-le}
use Rattle.fields.specs.Bodies.{blocks_of}
use Rattle.fields.proofs.Groups.{last-left, group-behind}
use Rattle.fields.proofs.Places.{numbers-under}
use Rattle.fields.proofs.Cuts.{put-more, put-all}
use Rattle.fields.proofs.write.put_body.Goals as goal

pub loop-k-preserved : goal.loop-k-preserved
loop-k-preserved c =
    let body = c.args.body.now in
    let left' = iter_rest (enumerate_source (rev_source c.next.new.self)) in
    let j = length left' in
    let steps = c.in-Some.ensures.steps in
    let last = last-left (blocks_of body) (iter_rest (enumerate_source (rev_source c.loop-k.k-iterator))) left' c.in-Some.block.now 0 c.loop-k.invariant.front steps.1.0 in
    let long : length (blocks_of body) ≡ body.size.count = length-take-le _ _ (search rules) in
    let at : c.in-Some.k ≡ j = omega arith in
    let put = c.put_block-rest.ensures in
    let ws = numbers c.put_block-rest.new.values in
    let behind = group-behind c.loop-k.values c.put_block-rest.new.values c.in-Some.k j at (omega arith) in
    record {
      counted = omega arith;
      front = last.2;
      put = put-more body.size.count (blocks_of body) (numbers c.loop-k.values) body.filling j c.loop-k.rest c.in-Some.block.now c.pow.result c.put_block-rest.result ws _
          (omega arith) long (length-map c.loop-k.values number_of ∙ omega arith) last.3 (c.pow.ensures ∙ ap (λ i. 4 ^ (i + 1)) at) put.whole put.below
          behind (rw (← last.1) c.loop-k.invariant.put);
    }

pub returns : goal.returns
returns c =
    let body = c.args.body.now in
    let left = iter_rest (enumerate_source (rev_source c.loop-k.k-iterator)) in
    put-all body.size.count (blocks_of body) (numbers c.loop-k.values) body.filling (length left) c.loop-k.rest c.in-None.ensures.steps.1.0 (length-map c.loop-k.values number_of ∙ omega arith) (numbers-under c.loop-k.values) c.loop-k.invariant.put
