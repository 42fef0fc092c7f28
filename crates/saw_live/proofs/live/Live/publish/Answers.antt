use Rattle.std.proofs.Common.{◌≡◌, ap, sym, subst, ◌∙◌}
use Rattle.std.specs.FinMap as finite
use Rattle.std.specs.Prelude.{unwrap_or}
use Rattle.saw_address.specs.Maps.{AreAddresses, StateMap, no_entries}
use Rattle.saw_context.specs.Outcome.{map_after}
use Rattle.saw_context.specs.Views.{over}
use Rattle.saw_merkle.specs.States.{map_at}
use Rattle.saw_node.specs.Trees.{root_of_map}
use Rattle.saw_live.proofs.Layered.{rooted_at, shared}
use Rattle.saw_live.proofs.live.Live.publish.Goals as goal

pub invariant_of-new : goal.invariant_of-new
invariant_of-new g c =
    let before : map_at c.args.state.now c.args.pass.now.root ≡ over no_entries c.args.pass.now.layers =
    ap (λ found. unwrap_or found no_entries) c.requires.kept in
    let now : over no_entries c.in_ok-layers.layers ≡ map_at c.args.state.now c.args.block.now.root =
    c.in_ok-layers.ensures ∙ ap (λ m. map_after m c.in_ok-changes.changes.items) (sym before) ∙ c.in_ok-changes.ensures.leads in
    let shown = shared c.in_ok-layers.layers c.in_ok-try_share.field-0 c.in_ok-try_share.ensures ∙ now in
    let known = rooted_at g.H.NodeHasher.hash_of c.args.state.now c.args.block.now.root c.sound.ensures.rooted c.requires.known in
    record {
      rooted = ap (root_of_map g.H.NodeHasher.hash_of) shown ∙ known.root_is;
      whole = subst (λ (m : StateMap). AreAddresses (finite.entries m)) (sym shown) known.addresses;
    }
