use Rattle.std.proofs.Common.{sym, ap, ◌∙◌}
use Rattle.std.specs.FinMap as finite
use Rattle.saw_address.proofs.Finite.{get-map_of, map_inserted}
use Rattle.saw_context.proofs.overlay.Overlay.put.Goals as goal

pub returns-clause-before : goal.returns-clause-before
returns-clause-before c =
    c.in_ok-insert.ensures.old ∙ sym (get-map_of c.self.inside.changes.entries c.args.at) ∙ ap (λ own. finite.get own c.args.at) c.self.view_is

pub returns-clause-ok : goal.returns-clause-ok
returns-clause-ok c =
    map_inserted c.self.inside.changes.entries c.insert.new.self.entries c.args.at c.args.value c.in_ok-insert.ensures.updates.0
    ∙ ap (λ own. finite.insert own c.args.at c.args.value) c.self.view_is
