use Rattle.std.proofs.Common.{◌≡◌, ℕ, List, sym, ap, subst, ◌∙◌}
use Rattle.saw_messages.specs.TxShapes.{TxShape}
use Rattle.saw_predtree.specs.Places.{tree_of}
use Rattle.saw_schedule.specs.Overlaps.{AreBytesOf}
use Rattle.saw_schedule.proofs.OverlappingTexts.{adds-alike, same-texts}
use Rattle.saw_schedule.proofs.edges.add_tx.Goals as goal

pub returns-then-eq-clause-ok : goal.returns-then-eq-clause-ok
returns-then-eq-clause-ok c =
    let inputs : c.as_slice.result.now ≡ c.args.tx.now.header.inputs = c.as_slice.ensures ∙ ap (λ (tx : TxShape). tx.header.inputs) c.tx.view_is in
    let outputs : c.as_slice-3.result.now ≡ c.args.tx.now.header.outputs = c.as_slice-3.ensures ∙ ap (λ (tx : TxShape). tx.header.outputs) c.tx.view_is in
    let again : c.as_slice-2.result.now ≡ c.args.tx.now.header.inputs = c.as_slice-2.ensures ∙ ap (λ (tx : TxShape). tx.header.inputs) c.tx.view_is in
    let same = same-texts c.as_slice-2.result.now c.as_slice-3.result.now (sym c.eq.ensures ∙ c.if-eq.true) in
    adds-alike (tree_of c.args.tree.now) (tree_of c.add.new.self) c.args.k c.args.tx.now c.in_ok-inputs.inputs.items c.add.result
    (subst (λ (texts : List (List ℕ)). AreBytesOf texts c.in_ok-inputs.inputs.items) inputs c.in_ok-inputs.ensures)
    (sym again ∙ (same ∙ outputs)) (rw (c.deref.ensures.value, c.deref-then-eq.ensures.value) at c.add.ensures.ok)
