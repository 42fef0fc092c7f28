use Rattle.std.proofs.Common.{◌≡◌, sym, ap, subst, ◌∙◌}
use Rattle.std.specs.FinMap as finite
use Rattle.saw_context.specs.Views.{over}
use Rattle.saw_address.specs.Maps.{AreAddresses, StateMap, no_entries}
use Rattle.saw_node.specs.Trees.{root_of_map}
use Rattle.saw_live.proofs.Layered.{no_layers, none_whole}
use Rattle.saw_live.proofs.live.nothing.Goals as goal

pub invariant_of-result : goal.invariant_of-result
invariant_of-result g c =
    let none : over no_entries c.new.result ≡ no_entries = ap (over no_entries) c.new.ensures ∙ no_layers in
    record {
      rooted = ap (root_of_map g.H.NodeHasher.hash_of) none ∙ sym c.requires;
      whole = subst (λ (m : StateMap). AreAddresses (finite.entries m)) (sym none) none_whole;
    }
