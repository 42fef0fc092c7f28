use Rattle.std.proofs.Common.{◌++◌, map, ap, sym, ◌∙◌}
use Rattle.std.proofs.lemmas.List.{append-nil}
use Rattle.std.specs.FinMap as finite
use Rattle.saw_address.proofs.Finite.{entries-map_of}
use Rattle.saw_context.proofs.Gathered.{entries-rising}
use Rattle.saw_context.proofs.Overlays.{change_of}
use Rattle.saw_context.proofs.overlay.Overlay.into_changes.Goals as goal

pub returns-clause-rising : goal.returns-clause-rising
returns-clause-rising c =
    let gives = c.into_iter-address-iterator.ensures.into_iter_gives in
    let all = sym (append-nil c.loop-address.changes) ∙ ap (λ rest. c.loop-address.changes ++ map change_of rest) (sym c.in-None.ensures.steps.0)
    ∙ c.loop-address.invariant in
    entries-rising c.self.inside.changes.entries c.loop-address.changes (all ∙ ap (map change_of) gives.0) gives.5

pub returns-clause-changes : goal.returns-clause-changes
returns-clause-changes c =
    let gives = c.into_iter-address-iterator.ensures.into_iter_gives in
    let all = sym (append-nil c.loop-address.changes) ∙ ap (λ rest. c.loop-address.changes ++ map change_of rest) (sym c.in-None.ensures.steps.0)
    ∙ c.loop-address.invariant in
    let entries = ap (map change_of) (entries-map_of c.self.inside.changes.entries gives.5) in
    let own = ap (λ own. map change_of (finite.entries own)) c.self.view_is in
    all ∙ ap (map change_of) gives.0 ∙ sym entries ∙ own
