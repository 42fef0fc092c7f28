use Rattle.std.proofs.Common.{◌≡◌, sym, subst, ◌∙◌}
use Rattle.std.proofs.lemmas.Option.{get_or_from_slice_get}
use Rattle.saw_context.specs.declared.job.Ticket.{Ticket}
use Rattle.saw_schedule.specs.Histories.{RunsIn, state_of}
use Rattle.saw_schedule.specs.declared.step.Step.TheVariants.{Take}
use Rattle.saw_crew.proofs.Endings.{gave-one, gave-ended, take-ticket}
use Rattle.saw_crew.proofs.ending.give_one_back.Goals as goal

pub returns-clause-gave : goal.returns-clause-gave
returns-clause-gave c = gave-one c.args.schedule.now c.give_back.new.self c.in-Some-Take.ticket c.give_back.result c.give_back.ensures

pub returns-clause-ended : goal.returns-clause-ended
returns-clause-ended c = λ ticket at runs.
    let look = c.in-Some-Take.ensures.lookup in
    let e : Take c.in-Some-Take.ticket ≡ Take ticket = sym c.in-Some-Take.field-0-is ∙ (look.3.1 (Take ticket) ∙ (rw c.steps.ensures.steps (get_or_from_slice_get c.args.schedule.now.steps c.args.k (Take ticket) (Take ticket) at))) in
    gave-ended c.args.schedule.now c.give_back.new.self c.in-Some-Take.ticket c.give_back.result c.give_back.ensures
    (subst (λ (t : Ticket). RunsIn (state_of c.give_back.new.self) t) (sym (take-ticket c.in-Some-Take.ticket ticket e)) runs)
