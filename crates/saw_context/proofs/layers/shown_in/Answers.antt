use Rattle.std.proofs.Common.{sym, ap, ◌∙◌}
use Rattle.saw_context.proofs.Runs.{shown_in-here, shown_in-behind}
use Rattle.saw_context.proofs.layers.shown_in.Goals as goal

pub returns-in-Some : goal.returns-in-Some
returns-in-Some c =
    c.as_ref.ensures.value
    ∙ ap (λ mark. mark.entry) c.deref-in-Some.ensures
    ∙ sym (shown_in-here c.args.runs.now c.loop-run.run-index c.run-item.result c.deref.result.now c.args.at.now c.loop-run-test.true c.run-item.is
    c.deref.ensures c.in-Some.mark.now c.in-Some.ensures.value)
    ∙ c.loop-run.invariant

pub loop-run-preserved : goal.loop-run-preserved
loop-run-preserved c =
    sym (shown_in-behind c.args.runs.now c.loop-run.run-index c.run-item.result c.deref.result.now c.args.at.now c.loop-run-test.true c.run-item.is
    c.deref.ensures c.in_default.ensures.value)
    ∙ c.loop-run.invariant
