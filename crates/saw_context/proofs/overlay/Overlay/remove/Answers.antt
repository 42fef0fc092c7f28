use Rattle.std.proofs.Common.{ap, ◌∙◌}
use Rattle.std.specs.FinMap as finite
use Rattle.saw_address.proofs.Finite.{map_removed}
use Rattle.saw_context.proofs.overlay.Overlay.remove.Goals as goal

pub returns : goal.returns
returns c =
    map_removed c.self.inside.changes.entries c.remove.new.self.entries c.args.at c.remove.ensures.updates.0
    ∙ ap (λ own. finite.remove own c.args.at) c.self.view_is
