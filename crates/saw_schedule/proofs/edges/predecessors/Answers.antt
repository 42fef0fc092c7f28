use Rattle.std.proofs.Common.{◌≡◌, ◌++◌, ℕ, List, length, sym, ap, ◌∙◌, subst, arith}
use Rattle.std.specs.Arc.{arc_value}
use Rattle.std.proofs.lemmas.List.{length-map}
use Rattle.saw_messages.specs.TxShapes.{TxShape}
use Rattle.saw_plan.proofs.Pairs.{shape-at}
use Rattle.saw_plan.specs.BatchShapes.{shapes_of}
use Rattle.saw_predtree.specs.Places.{tree_of}
use Rattle.saw_ready.specs.declared.edges.Edges.{Edges}
use Rattle.saw_schedule.specs.Overlaps.{AddsTx}
use Rattle.saw_schedule.specs.Shows.{targets_of}
use Rattle.saw_schedule.proofs.TreeEdges.{AreAdded, added-earlier, added-edges, added-thin, one-more-added}
use Rattle.saw_schedule.proofs.edges.predecessors.Goals as goal

pub loop-k-preserved : goal.loop-k-preserved
loop-k-preserved c =
    one-more-added (shapes_of c.args.txs.now) c.args.named.now (tree_of c.loop-k.tree) (tree_of c.add_tx.new.tree) c.loop-k.from.items c.loop-k.to.items c.loop-k.k (arc_value c.index-txs-k.result) c.in_ok-found.found.items
    c.loop-k.invariant (shape-at c.args.txs.now c.loop-k.k c.index-txs-k.result c.loop-k-test.true c.index-txs-k.is)
    (subst (λ (tx : TxShape). AddsTx (tree_of c.loop-k.tree) (tree_of c.add_tx.new.tree) c.loop-k.k tx c.in_ok-found.found.items) c.deref.ensures c.in_ok-found.ensures.ok)
    c.push-in-loop-k.new.self.items c.add_row.new.to.items _ c.in_ok-found.ensures.next
    (c.in_ok-add_row.ensures ∙ ap (λ (to : List ℕ). to ++ targets_of c.args.named.now c.loop-k.k)
    (c.in_ok-extend_from_slice.ensures.items ∙ ap (λ (more : List ℕ). c.loop-k.to.items ++ more) c.deref-in-loop-k.ensures.value))
    (c.in_ok-place_of.ensures ∙ ap length c.deref-in-loop-k-2.ensures.value) c.in_ok-push-2.ensures.items

abbrev made : goal.After-drop-tree-2 → Edges
made c = record { from = c.loop-k.from; to = c.loop-k.to }

all-added : (c : goal.After-drop-tree-2) → AreAdded (shapes_of c.args.txs.now) c.args.named.now (tree_of c.loop-k.tree) c.loop-k.from.items c.loop-k.to.items (length c.args.txs.now)
all-added c =
    let end : c.loop-k.k ≡ length c.args.txs.now = omega (arith, c.loop-k.auto.k-end, c.loop-k-test.false) in
    subst (λ (n : ℕ). AreAdded (shapes_of c.args.txs.now) c.args.named.now (tree_of c.loop-k.tree) c.loop-k.from.items c.loop-k.to.items n) end c.loop-k.invariant

pub returns-clause-edges : goal.returns-clause-edges
returns-clause-edges c =
    added-edges (shapes_of c.args.txs.now) c.args.named.now (made c) (tree_of c.loop-k.tree) (length c.args.txs.now) (sym (length-map c.args.txs.now arc_value)) c.requires.edges c.requires.earlier c.requires.names (all-added c)

pub returns-clause-earlier : goal.returns-clause-earlier
returns-clause-earlier c =
    added-earlier (shapes_of c.args.txs.now) c.args.named.now (made c) (tree_of c.loop-k.tree) (length c.args.txs.now) (sym (length-map c.args.txs.now arc_value)) c.requires.edges c.requires.earlier c.requires.names (all-added c)

pub returns-clause-thin : goal.returns-clause-thin
returns-clause-thin c =
    added-thin (shapes_of c.args.txs.now) c.args.named.now (made c) (tree_of c.loop-k.tree) (length c.args.txs.now) (sym (length-map c.args.txs.now arc_value)) c.requires.edges c.requires.earlier c.requires.names (all-added c)
