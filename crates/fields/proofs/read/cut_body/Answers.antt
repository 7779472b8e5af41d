use Rattle.std.proofs.Common.{◌≡◌, ◌+◌, ◌*◌, ◌^◌, length, [], take, arith, sym, ap, ◌∙◌, flat_map}
use Rattle.std.proofs.lemmas.List.{length_push, length-map, get_or_default}
use Rattle.line.specs.Values.{number_of, numbers}
use Rattle.fields.proofs.Groups.{numbered, numbered_turn, numbered_end, groups-more}
use Rattle.fields.proofs.Cuts.{cut-more, cut-all, spare_more}
use Rattle.fields.proofs.read.cut_body.Goals as goal

pub loop-k-preserved : goal.loop-k-preserved
loop-k-preserved c =
    let groups = c.args.groups.now in
    let group = c.in-Some.group in
    let i = length c.loop-k.yielded in
    let road = numbered groups c.iter.ensures.rest c.copied.ensures.source c.enumerate-k-items.ensures.source c.enumerate-k-items.ensures.count c.into_iter-k-iterator.ensures.into_iter_gives in
    let turn = numbered_turn groups _ _ _ road c.loop-k.yielded c.loop-k.yielded_by _ c.next.ensures.steps c.in-Some.k group c.in-Some.is in
    let eleven : length (numbers group) ≡ 11 = length-map group number_of ∙ ap length (turn.2 ∙ get_or_default groups i group [] turn.0) ∙ c.told-groups i turn.0 in
    let room : c.loop-k.spare * 4 ≡ 4 ^ (i + 1) = ap (λ n. n * 4) c.loop-k.invariant.room ∙ sym (spare_more i) in
    let cut = c.cut_block-cut.ensures in
    let more = cut-more (flat_map numbers (take i groups)) (numbers group) c.loop-k.closed i c.loop-k.rest c.cut_block-cut.result.block c.cut_block-cut.result.rest _ (omega arith) eleven room cut.block cut.below cut.whole c.loop-k.invariant.cut in
    record {
      cut = rw (length_push c.loop-k.yielded (c.in-Some.k, group), groups-more groups group i turn.0 turn.2, turn.1) more;
      room = rw (length_push c.loop-k.yielded (c.in-Some.k, group)) room;
    }

pub invariant_of-result : goal.invariant_of-result
invariant_of-result c =
    let groups = c.args.groups.now in
    let road = numbered groups c.iter.ensures.rest c.copied.ensures.source c.enumerate-k-items.ensures.source c.enumerate-k-items.ensures.count c.into_iter-k-iterator.ensures.into_iter_gives in
    let end = numbered_end groups _ _ _ road c.loop-k.yielded c.loop-k.yielded_by _ c.next.ensures.steps c.in-None.is in
    let all = cut-all (flat_map numbers (take (length c.loop-k.yielded) groups)) c.loop-k.closed c.args.size.count (length c.loop-k.yielded) c.loop-k.rest (omega arith) (omega arith) c.loop-k.invariant.cut in
    record { fits = all.2; blank = all.3 }
