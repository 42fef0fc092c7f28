use Rattle.std.proofs.Common.{sym, ◌∙◌, ap}
use Rattle.std.specs.Option.{option_map}
use Rattle.saw_node.specs.Nodes.{shape_of}
use Rattle.saw_store.specs.Stores.{kept_at}
use Rattle.saw_store.proofs.Kept.{kept_at-shown, same_lookup}
use Rattle.saw_store.proofs.store.NodeStore.get.Goals as goal

pub returns : goal.returns
returns g c = ap (option_map shape_of) (c.get.ensures.value ∙ same_lookup c.args.hash.now c.self.inside.nodes.entries)
    ∙ sym (kept_at-shown c.self.inside.nodes.entries c.args.hash.now) ∙ ap (λ s. kept_at s c.args.hash.now) c.self.view_is
