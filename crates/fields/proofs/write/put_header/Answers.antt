use Rattle.std.proofs.Common.{◌∙◌, arith}
use Rattle.fields.specs.Layout.{header_values}
use Rattle.fields.proofs.Places.{written-none, field-written, written-all}
use Rattle.fields.proofs.write.put_header.Goals as goal

pub returns : goal.returns
unfolding header_values
returns c =
    let repeater = field-written 15 _ c.put_number.new.values 0 2 _ _ (omega arith) c.put_number.ensures (written-none 15 c.args.values.now c.requires) in
    let check = field-written 15 _ c.put_number-2.new.values 2 1 _ _ (omega arith) c.put_number-2.ensures repeater in
    let destination = field-written 15 _ c.put_number-3.new.values 3 2 _ _ (omega arith) c.put_number-3.ensures check in
    let network = field-written 15 _ c.put_number-4.new.values 5 6 _ _ (omega arith) c.put_number-4.ensures destination in
    let source = field-written 15 _ c.put_number-5.new.values 11 2 _ _ (omega arith) c.put_number-5.ensures network in
    let kind = field-written 15 _ c.put_number-6.new.values 13 1 _ _ (omega arith) c.put_number-6.ensures source in
    let size = field-written 15 _ c.put_number-7.new.values 14 1 _ _ (omega arith) c.put_number-7.ensures kind in
    written-all 15 _ _ size ∙ cc
