use Rattle.std.proofs.Common.{◌≡◌, ◌+◌, Bool, List, false, length, subst, sym, ◌∙◌}
use Rattle.std.proofs.lemmas.List.{with_items_is}
use Rattle.saw_predtree.specs.Entries.{with_entry}
use Rattle.saw_predtree.specs.Places.{tree_from}
use Rattle.saw_predtree.specs.Trees.{IsTreeOf}
use Rattle.saw_predtree.proofs.tree.PredecessorTree.add.Goals as goal

pub returns-clause-ok : goal.returns-clause-ok
returns-clause-ok c = λ w tree.
    let old = c.args.self.now in
    let now = c.enter.new.lengths in
    let whole = subst (λ (b : Bool). IsTreeOf (tree_from old.places old.lengths.items old.reaches.items old.next b) w) c.if-self.false tree in
    let adds = rw c.as_mut_slice.ensures.value at c.in_ok-given.ensures in
    let added = adds old.next c.requires.later w whole in
    let long : length now ≡ old.lengths.len = added.marked.marks ∙ (sym tree.marked.marks ∙ sym old.lengths.ok.0) in
    subst
    (λ (lengths : List Bool). IsTreeOf (tree_from c.enter.new.places lengths c.enter.new.reaches.items (c.args.index + 1) false)
    (with_entry w c.args.index c.args.inputs.now c.args.outputs.now c.in_ok-given.given.items))
    (sym (with_items_is old.lengths now long)) added
