use Rattle.std.proofs.Common.{◌++◌, ◌∷◌, ℕ, List, [], length, refl, sym, ap, ◌∙◌, if◌then◌else◌}
use Rattle.std.specs.Arc.{arc_value}
use Rattle.std.specs.Str.{bytes_eq}
use Rattle.std.proofs.lemmas.List.{length-map}
use Rattle.saw_messages.specs.TxShapes.{TxShape}
use Rattle.saw_plan.proofs.Pairs.{shape-at}
use Rattle.saw_plan.specs.BatchShapes.{shapes_of}
use Rattle.saw_ready.specs.declared.edges.Edges.{Edges}
use Rattle.saw_schedule.specs.ByIds.{numbers_under}
use Rattle.saw_schedule.proofs.NamedRows.{named-earlier, named-edges, named-names, named_row, one-more-named}
use Rattle.saw_schedule.proofs.Rows.{AreRows, no-rows, rows-at}
use Rattle.saw_schedule.proofs.edges.named_by_ids.Goals as goal

pub loop-k-init : goal.loop-k-init
loop-k-init c = record {
  rows = rw (c.in_ok-push.ensures.items, c.new-from.ensures.items, c.new-to.ensures.items) (no-rows _);
  numbers = λ id. rw c.new-numbers.ensures.empty refl;
}

pub loop-k-preserved : goal.loop-k-preserved
loop-k-preserved c =
    let tx = arc_value c.index-txs-k.result in
    one-more-named (shapes_of c.args.txs.now) c.loop-k.from.items c.loop-k.to.items (numbers_under c.loop-k.numbers) (numbers_under c.note.new.numbers) c.loop-k.k tx c.loop-k.invariant
    (shape-at c.args.txs.now c.loop-k.k c.index-txs-k.result c.loop-k-test.true c.index-txs-k.is)
    c.add_named.new.to.items c.push-in-loop-k.new.self.items _
    (rw (← c.deref.ensures) c.in_ok-add_named.ensures) (c.in_ok-place_of.ensures ∙ ap length c.deref-in-loop-k.ensures.value) c.in_ok-push-2.ensures.items
    (λ id. c.in_ok-note.ensures id
    ∙ ap (λ (own : List ℕ). numbers_under c.loop-k.numbers id ++ (if bytes_eq id own then c.loop-k.k ∷ [] else []))
    (c.as_str.ensures ∙ ap (λ (shape : TxShape). shape.id) (c.behind-tx.view_is ∙ c.deref-in-loop-k-2.ensures)))

rows : (c : goal.After-drop-numbers-2) → AreRows c.loop-k.from.items c.loop-k.to.items (length c.args.txs.now) (named_row (shapes_of c.args.txs.now))
rows c = rows-at _ _ c.loop-k.k (length c.args.txs.now) _ c.loop-k.auto.k-end c.loop-k-test.false c.loop-k.invariant.rows

abbrev made : goal.After-drop-numbers-2 → Edges
made c = record { from = c.loop-k.from; to = c.loop-k.to }

pub returns-clause-edges : goal.returns-clause-edges
returns-clause-edges c = named-edges (made c) (shapes_of c.args.txs.now) (length c.args.txs.now) (rows c)

pub returns-clause-earlier : goal.returns-clause-earlier
returns-clause-earlier c = named-earlier (made c) (shapes_of c.args.txs.now) (length c.args.txs.now) (rows c)

pub returns-clause-names : goal.returns-clause-names
returns-clause-names c = named-names (made c) (shapes_of c.args.txs.now) (length c.args.txs.now) (rows c) (sym (length-map c.args.txs.now arc_value))
