use Rattle.std.proofs.Common.{subst}
use Rattle.saw_journal.proofs.Dropped.{all_added, none_from, nothing_dropped}
use Rattle.saw_journal.proofs.planned.plan_all.Goals as goal

pub returns-in-None-clause-plans : goal.returns-in-None-clause-plans
returns-in-None-clause-plans g c = λ there knows.
    none_from there c.args.batches.now c.in_ok-plan.field-0 (c.in_ok-plan.ensures.sorted there knows) c.in-None.ensures

pub returns-in-None-clause-grown : goal.returns-in-None-clause-grown
returns-in-None-clause-grown g c = λ there knows.
    let batches = c.args.batches.now in
    let none = nothing_dropped there batches c.in_ok-plan.field-0 (c.in_ok-plan.ensures.sorted there knows) c.in-None.ensures in
    subst (g.K.KnownIds.knows c.precheck_by.new.known) (all_added 0 there batches none) (c.in_ok-plan.ensures.grown there knows)
