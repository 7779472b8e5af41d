use Rattle.std.proofs.Common.{◌++◌, ap, ◌∙◌, rules}
use Rattle.line.specs.Values.{numbers}
use Rattle.fields.specs.Layout.{header_values}
use Rattle.fields.proofs.Made.{parts-joined}
use Rattle.fields.proofs.write.put_frame.Goals as goal

pub returns : goal.returns
returns c =
    let header = c.put_header.new.values in
    let body = c.put_body.new.values in
    parts-joined header _ body 15 (search rules) ∙ ap (λ vs. vs ++ numbers body) c.put_header.ensures ∙ ap (λ vs. header_values c.args.frame.now.header ++ vs) c.put_body.ensures
