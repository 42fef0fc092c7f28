use Rattle.std.proofs.Common.{sym, ap, ◌∙◌}
use Rattle.std.specs.FinMap as finite
use Rattle.saw_address.proofs.Finite.{get-map_of, map_inserted}
use Rattle.saw_context.proofs.overlay.Overlay.put_again.Goals as goal

pub returns-in-Ok : goal.returns-in-Ok
returns-in-Ok c there =
    map_inserted c.self.inside.changes.entries c.insert.new.self.entries c.args.at c.args.change c.in-Ok.ensures.updates.0
    ∙ ap (λ own. finite.insert own c.args.at c.args.change) c.self.view_is

pub returns : goal.returns
returns c there = absurd (there (ap (λ own. finite.get own c.args.at) (sym c.self.view_is) ∙ get-map_of c.self.inside.changes.entries c.args.at
    ∙ c.in-Err.ensures.absent))
