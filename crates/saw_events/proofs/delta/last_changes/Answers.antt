use Rattle.std.proofs.Common.{◌++◌, map, ap, sym, ◌∙◌}
use Rattle.std.proofs.lemmas.List.{append-nil}
use Rattle.saw_events.specs.Events.{changes_in}
use Rattle.saw_events.proofs.Deltas.{values-of}
use Rattle.saw_events.proofs.delta.last_changes.Goals as goal

pub returns : goal.returns
returns c =
    let gives = c.into_iter-change-iterator.ensures.into_iter_gives in
    sym (append-nil c.loop-change.made) ∙ ap (λ rest. c.loop-change.made ++ map (λ entry. entry.1) rest) (sym c.in-None.ensures.steps.0)
    ∙ c.loop-change.invariant ∙ ap (map (λ entry. entry.1)) gives.0
    ∙ values-of c.in_ok-items.items.entries (changes_in c.args.block.now) gives.5 c.in_ok-items.ensures
