use Rattle.std.proofs.Common.{◌∙◌}
use Rattle.saw_context.specs.Outcome.{changes_of, map_after}
use Rattle.saw_schedule.proofs.Steps.{outcome_more}
use Rattle.saw_schedule.proofs.changes.gather_outcomes.Goals as goal

pub loop-outcome-preserved : goal.loop-outcome-preserved
loop-outcome-preserved c = λ m.
    let l = c.loop-outcome in
    outcome_more c.args.outcomes.now l.outcome-index c.outcome-item.result c.loop-outcome-test.true c.outcome-item.is
    (map_after m (changes_of l.gathered)) (map_after m (changes_of c.gather.new.gathered)) (c.in_ok-gather.ensures m)
    ∙ l.invariant m
