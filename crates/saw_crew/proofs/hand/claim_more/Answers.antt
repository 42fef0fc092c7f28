use Rattle.std.proofs.Common.{List, [], ◌∷◌, ◌++◌, ap, ◌∙◌}
use Rattle.saw_context.specs.declared.job.Job.{Job}
use Rattle.saw_crew.proofs.hand.claim_more.Goals as goal

pub returns-in-Some-clause-ok : goal.returns-in-Some-clause-ok
returns-in-Some-clause-ok c =
    (c.in-Some.job, c.in-Some.ensures.rule, c.put_job.ensures.more ∙ ap (λ (jobs : List Job). jobs ++ c.in-Some.job ∷ []) c.in_ok-reserve.ensures.items)
