use Rattle.std.proofs.Common.{Option, inr, sym, subst, ◌∙◌}
use Rattle.std.proofs.lemmas.Result.{on_ok_weaker}
use Rattle.saw_plan.specs.StaticRules.{after_batch}
use Rattle.saw_plan.specs.declared.sorted.DropCause.{DropCause}
use Rattle.saw_plan.proofs.Fronts.{behind_error, whole_part}
use Rattle.saw_plan.proofs.drops.sort_next.Goals as goal

pub returns-in_ok-copy_batch-in-None-clause-ids : goal.returns-in_ok-copy_batch-in-None-clause-ids
returns-in_ok-copy_batch-in-None-clause-ids g c =
    on_ok_weaker c.keep.result
    (λ _ there known.
    subst (λ (cause : Option DropCause). g.K.KnownIds.knows c.add_batch.new.known (after_batch cause there c.args.batch.now))
    (sym c.in-None.is ∙ c.in_ok-batch_cause.ensures there known) (c.in_ok-add_batch-in-None.ensures.ok there known))
    c.keep.ensures

pub returns-in_err-copy_batch-in-None-clause-part : goal.returns-in_err-copy_batch-in-None-clause-part
returns-in_err-copy_batch-in-None-clause-part g c =
    behind_error c.from_residual-in_err-copy_batch-in-None.result
    (λ there known. inr (whole_part g.K.KnownIds.knows c.add_batch.new.known there c.args.batch.now
    (sym (sym c.in-None.is ∙ c.in_ok-batch_cause.ensures there known)) (c.in_ok-add_batch-in-None.ensures.ok there known)))

pub returns-in_ok-copy_batch-in-None-clause-part : goal.returns-in_ok-copy_batch-in-None-clause-part
returns-in_ok-copy_batch-in-None-clause-part g c =
    behind_error c.keep.result
    (λ there known. inr (whole_part g.K.KnownIds.knows c.add_batch.new.known there c.args.batch.now
    (sym (sym c.in-None.is ∙ c.in_ok-batch_cause.ensures there known)) (c.in_ok-add_batch-in-None.ensures.ok there known)))
