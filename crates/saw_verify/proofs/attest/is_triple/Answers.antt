use Rattle.std.proofs.Common.{◌∙◌, sym, length, eqb-true}
use Rattle.std.proofs.lemmas.Bool.{false≢true}
use Rattle.saw_verify.proofs.Triples.{is_triple_by}
use Rattle.saw_verify.proofs.attest.is_triple.Goals as goal
use Rattle.saw_verify.proofs.attest.is_triple.Goals.{then-line-eq324, else-line-eq324, then-is_field, else-is_field}

pub returns-then-is_field-2 : goal.returns-then-is_field-2
returns-then-is_field-2 c =
    elim c.if-is_field.branch [
      | then-is_field w ↦ elim c.if-line-eq324.branch [
        | then-line-eq324 v ↦ c.are_hex_digits.ensures ∙ is_triple_by c.args.line.now v.if-line-eq324.true
            (sym v.is_field.ensures ∙ sym v.value-is ∙ w.if-is_field.true)
            (sym w.is_field-then-is_field.ensures ∙ sym w.value-is ∙ c.if-is_field-2.true)
        | else-line-eq324 v ↦ absurd (v.if-line-eq324.false (eqb-true (length c.args.line.now) 324 (sym v.value-is ∙ w.if-is_field.true)))
      ]
      | else-is_field w ↦ absurd (false≢true (sym w.if-is_field.false ∙ sym w.value-is ∙ c.if-is_field-2.true))
    ]
