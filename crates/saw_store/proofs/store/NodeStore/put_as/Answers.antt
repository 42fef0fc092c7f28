use Rattle.std.proofs.Common.{sym, ◌∙◌, ap, refl, Some}
use Rattle.std.proofs.lemmas.Bool.{both_ways}
use Rattle.saw_node.specs.Nodes.{shape_of}
use Rattle.saw_store.specs.Stores.{kept_at}
use Rattle.saw_store.proofs.Kept.{kept_found, kept_missing, node_added, node_kept, free_kept, free_missing}
use Rattle.saw_store.proofs.store.NodeStore.put_as.Goals as goal

pub returns-then-is_same_node-clause-ok : goal.returns-then-is_same_node-clause-ok
returns-then-is_same_node-clause-ok g c =
    node_kept g.H.NodeHasher.hash_of c.args.self.now c.args.hash (shape_of c.args.node) (shape_of c.in-Some.kept.now) c.requires
    (kept_found c.self.inside.nodes.entries c.args.self.now c.args.hash c.in-Some.kept.now c.self.view_is c.in-Some.ensures.value)
    (c.is_same_node.ensures.0 c.if-is_same_node.true)

pub returns-then-is_same_node-clause-free : goal.returns-then-is_same_node-clause-free
returns-then-is_same_node-clause-free g c =
    free_kept g.H.NodeHasher.hash_of c.args.self.now c.args.hash (shape_of c.args.node) (shape_of c.in-Some.kept.now) c.requires
    (kept_found c.self.inside.nodes.entries c.args.self.now c.args.hash c.in-Some.kept.now c.self.view_is c.in-Some.ensures.value)
    (c.is_same_node.ensures.0 c.if-is_same_node.true)

pub returns-in_ok-insert-in-None-clause-ok : goal.returns-in_ok-insert-in-None-clause-ok
returns-in_ok-insert-in-None-clause-ok g c =
    node_added g.H.NodeHasher.hash_of c.self.inside.nodes.entries c.insert.new.self.entries c.args.self.now c.args.hash c.args.node c.self.view_is
    c.requires c.in_ok-insert-in-None.ensures.updates.0

pub returns-in_ok-insert-in-None-clause-free : goal.returns-in_ok-insert-in-None-clause-free
returns-in_ok-insert-in-None-clause-free g c =
    free_missing g.H.NodeHasher.hash_of c.args.self.now c.args.hash (shape_of c.args.node) c.requires
    (kept_missing c.self.inside.nodes.entries c.args.self.now c.args.hash c.self.view_is c.in-None.ensures.value)

pub returns-in_ok-kept-in-Some-clause-clash : goal.returns-in_ok-kept-in-Some-clause-clash
returns-in_ok-kept-in-Some-clause-clash g c = (
  refl,
  λ e. both_ways c.is_same_node.result c.if-is_same_node.false (c.is_same_node.ensures.1 (sym c.in_ok-kept-in-Some.ensures ∙ e)),
  ap (kept_at c.args.self.now) (sym c.requires) ∙ kept_found c.self.inside.nodes.entries c.args.self.now c.args.hash c.in-Some.kept.now c.self.view_is
      c.in-Some.ensures.value ∙ ap Some (sym c.in_ok-kept-in-Some.ensures),
)
