use Rattle.std.proofs.Common.{map, sym, ap, subst, ◌∙◌, arith}
use Rattle.std.proofs.lemmas.List.{length-map}
use Rattle.std.specs.Prelude.{string_bytes}
use Rattle.indexmap.specs.IndexMap.{keys, values}
use Rattle.saw_context.specs.Outcome.{map_after}
use Rattle.saw_merkle.specs.States.{map_at}
use Rattle.saw_node.specs.Trees.{root_of_map}
use Rattle.saw_receipts.specs.Heads.{head_of, is_new_head}
use Rattle.saw_journal.specs.Ledger.{Ledger}
use Rattle.saw_journal.specs.Linked.{StandsBehind}
use Rattle.saw_journal.proofs.Joining.{head_joins, other_joins, still_stands}
use Rattle.saw_journal.proofs.journal.Journal.join.Goals as goal

pub invariant_of-self-then-is_head : goal.invariant_of-self-then-is_head
invariant_of-self-then-is_head g c =
    let hash = g.H.NodeHasher.hash_of in
    let inside = c.self.inside in
    let new = c.args.new in
    let put = c.in_ok-put.ensures in
    let view = c.self.view_is in
    let count = c.len-place.ensures.len ∙ sym (length-map inside.blocks.entries (λ e. e.1)) in
    head_joins hash (map string_bytes (keys inside.blocks)) (values inside.blocks) inside.holders inside.ids.items inside.head inside.state
    inside.limit c.self.invariant new.block (map_after (map_at inside.state new.before) new.changes)
    (c.requires.may.root ∙ ap (λ (j : Ledger). root_of_map hash (map_after (map_at j.states new.before) new.changes)) (sym view))
    (subst (λ (j : Ledger). StandsBehind j.blocks new.block) (sym view) c.requires.may.behind)
    (omega (arith, c.if-len-self.false, c.len.ensures.len, length-map inside.blocks.entries (λ e. e.1)))
    (map string_bytes (keys c.put.new.blocks)) (values c.put.new.blocks) c.put.new.state put.joined put.ids put.state
    c.put.new.holders c.put.new.ids.items put.kept c.len-place.result count
    (c.if-is_head.ensures ∙ ap (λ (j : Ledger). is_new_head (head_of j.blocks) new.block) (sym view))

pub invariant_of-self-else-is_head : goal.invariant_of-self-else-is_head
invariant_of-self-else-is_head g c =
    let hash = g.H.NodeHasher.hash_of in
    let inside = c.self.inside in
    let new = c.args.new in
    let put = c.in_ok-put.ensures in
    let view = c.self.view_is in
    other_joins hash (map string_bytes (keys inside.blocks)) (values inside.blocks) inside.holders inside.ids.items inside.head inside.state
    inside.limit c.self.invariant new.block (map_after (map_at inside.state new.before) new.changes)
    (c.requires.may.root ∙ ap (λ (j : Ledger). root_of_map hash (map_after (map_at j.states new.before) new.changes)) (sym view))
    (subst (λ (j : Ledger). StandsBehind j.blocks new.block) (sym view) c.requires.may.behind)
    (omega (arith, c.if-len-self.false, c.len.ensures.len, length-map inside.blocks.entries (λ e. e.1)))
    (map string_bytes (keys c.put.new.blocks)) (values c.put.new.blocks) c.put.new.state put.joined put.ids put.state
    c.put.new.holders c.put.new.ids.items put.kept
    (c.if-is_head.ensures ∙ ap (λ (j : Ledger). is_new_head (head_of j.blocks) new.block) (sym view))

pub invariant_of-self : goal.invariant_of-self
invariant_of-self g c =
    let inside = c.self.inside in
    let left = c.in_err-put.ensures in
    still_stands g.H.NodeHasher.hash_of (map string_bytes (keys inside.blocks)) (values inside.blocks) inside.holders inside.ids.items inside.head inside.state
    inside.limit c.self.invariant (map string_bytes (keys c.put.new.blocks)) (values c.put.new.blocks) c.put.new.holders c.put.new.ids.items c.put.new.state
    left.err_blocks.1 left.err_blocks.0 left.err_holders.0 left.err_holders.1 left.err_ids left.err_state
