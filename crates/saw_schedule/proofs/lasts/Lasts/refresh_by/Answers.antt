use Rattle.std.proofs.Common.{sym, ◌∙◌}
use Rattle.saw_schedule.proofs.Refreshing.{all-right, right-more}
use Rattle.saw_schedule.proofs.lasts.Lasts.refresh_by.Goals as goal

pub loop-change-preserved : goal.loop-change-preserved
loop-change-preserved c = (
  c.refresh_at.ensures.so,
  right-more c.args.steps.now c.args.slots.now c.loop-change.self c.refresh_at.new.self c.args.place c.loop-change.n c.in-Some.change.now (sym c.in-Some.ensures.change)
      c.refresh_at.ensures.others c.in_ok-refresh_at.ensures.right c.loop-change.invariant.1,
  λ q right. c.refresh_at.ensures.others q (c.loop-change.invariant.2 q right),
  (c.refresh_at.ensures.stays.0 ∙ c.loop-change.invariant.3.0, c.refresh_at.ensures.stays.1 ∙ c.loop-change.invariant.3.1, c.refresh_at.ensures.wide ∙ c.loop-change.invariant.3.2),
)

pub returns-clause-right : goal.returns-clause-right
returns-clause-right c = all-right c.args.steps.now c.args.slots.now c.loop-change.self c.args.place c.loop-change.n (sym c.in_default.ensures.change) c.loop-change.invariant.1
