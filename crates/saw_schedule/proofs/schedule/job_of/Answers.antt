use Rattle.std.proofs.Common.{◌≡◌, ℕ, true, List, length, refl, ap, subst, ◌∙◌}
use Rattle.std.proofs.lemmas.Option.{slice_get_read}
use Rattle.std.specs.Arc.{arc_value}
use Rattle.saw_messages.specs.TxShapes.{TxShape}
use Rattle.saw_context.specs.Conversation.{are_covering}
use Rattle.saw_schedule.proofs.schedule.job_of.Goals as goal

pub view_at-requires-clause-first : goal.view_at-requires-clause-first
view_at-requires-clause-first c = λ first at covers.
    let there = slice_get_read c.args.txs.now (length c.args.txs.now) c.args.k c.index-txs-k.result refl c.requires.there c.index-txs-k.is in
    let same : c.as_slice-texts.result.now ≡ (arc_value c.index-txs-k.result).header.inputs =
    c.as_slice-texts.ensures ∙ ap (λ (tx : TxShape). tx.header.inputs) (c.behind-tx.view_is ∙ (c.deref.ensures ∙ c.in_ok-tx.ensures.cases)) in
    c.requires.first first c.index-txs-k.result there at (subst (λ (texts : List (List ℕ)). are_covering texts at ≡ true) same covers)
