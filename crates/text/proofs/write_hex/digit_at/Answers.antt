use Rattle.std.proofs.Common.{sym, ap, ◌∙◌, [], ◌∷◌, ◌%◌, arith}
use Rattle.text.specs.Hexadecimal.{hex_digit}
use Rattle.text.proofs.Writing.{shifted, none-past, digit-of}
use Rattle.text.proofs.write_hex.digit_at.Goals as goal
use Rattle.text.proofs.write_hex.digit_at.Goals.{then-place-lt16, else-place-lt16}

pub returns : goal.returns
returns c =
    c.range.ensures.value
    ∙ digit-of (c.if-place-lt16.rest % 16) (omega arith)
    ∙ ap (λ rest. hex_digit (rest % 16) ∷ []) (elim c.if-place-lt16.branch [
      | then-place-lt16 w ↦ shifted c.args.number c.args.place c.if-place-lt16.rest w.rest-is
      | else-place-lt16 w ↦ w.rest-is ∙ sym (none-past c.args.number c.args.place (omega arith) (omega arith))
    ])
