use Rattle.std.proofs.Common.{sym, ap, ◌∙◌}
use Rattle.saw_context.proofs.Runs.{put_all, put_all-more, put_all-run}
use Rattle.saw_context.proofs.layers.put_over.Goals as goal

pub loop-at-preserved-in_ok-insert : goal.loop-at-preserved-in_ok-insert
loop-at-preserved-in_ok-insert c = λ q.
    put_all-more c.loop-at.run (record { marks = c.insert.new.self }) c.in-Some.at.now c.in-Some.mark.now c.in_ok-try_clone.field-0 c.loop-at.at-iterator c.next.new.self
    c.in-Some.ensures.steps c.in_ok-try_clone.ensures c.in_ok-insert.ensures.updates.0 q
    ∙ c.loop-at.invariant q

pub loop-at-preserved : goal.loop-at-preserved
loop-at-preserved c = λ q.
    put_all-more c.loop-at.run (record { marks = c.insert.new.self }) c.in-Some.at.now c.in-Some.mark.now c.in_ok-try_clone.field-0 c.loop-at.at-iterator c.next.new.self
    c.in-Some.ensures.steps c.in_ok-try_clone.ensures c.in_ok-insert.ensures.updates.0 q
    ∙ c.loop-at.invariant q

pub returns : goal.returns
returns c = λ q.
    ap (λ entries. put_all c.loop-at.run entries q) (sym c.in-None.ensures.steps.0)
    ∙ c.loop-at.invariant q
    ∙ put_all-run c.args.run.now c.args.newer.now c.iter-at-items.ensures.ordered q
