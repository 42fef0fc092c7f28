use Rattle.std.proofs.Common.{ap, sym, ◌∙◌}
use Rattle.std.specs.FinMap as finite
use Rattle.saw_address.proofs.Finite.{get-map_of}
use Rattle.saw_context.proofs.overlay.Overlay.get.Goals as goal

pub returns : goal.returns
returns c =
    c.get.ensures.value ∙ sym (get-map_of c.self.inside.changes.entries c.args.at.now) ∙ ap (λ own. finite.get own c.args.at.now) c.self.view_is
