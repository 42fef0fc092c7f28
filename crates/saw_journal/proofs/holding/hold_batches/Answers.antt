use Rattle.std.proofs.Common.{List, refl, subst, take, ◌∙◌}
use Rattle.std.proofs.lemmas.List.{take_all}
use Rattle.std.specs.Arc.{arc_value}
use Rattle.saw_plan.specs.SortingSteps.{both}
use Rattle.saw_plan.specs.StaticRules.{Ids}
use Rattle.saw_receipts.specs.Branches.{batch_ids}
use Rattle.saw_receipts.specs.declared.block.BatchRecord.{BatchRecord}
use Rattle.saw_journal.specs.KnownBranches.{KnowsWith}
use Rattle.saw_journal.proofs.FirstHolders.{add_both, add_none, with_none}
use Rattle.saw_journal.proofs.Ids.{batch_ids_more}
use Rattle.saw_journal.proofs.holding.hold_batches.Goals as goal

pub loop-batch-init : goal.loop-batch-init
loop-batch-init c =
    let block = arc_value c.args.block.now in
    let holders = c.args.holders.now in (λ there knows. with_none block holders c.args.kept.now there knows, add_none block holders, refl)

pub loop-batch-preserved : goal.loop-batch-preserved
loop-batch-preserved c =
    let at = c.loop-batch.batch-index in
    let batches = c.args.batches.now in
    let block = arc_value c.args.block.now in (
      λ there knows.
          subst (λ (ids : Ids). KnowsWith block c.hold_batch.new.holders c.hold_batch.new.kept ids)
          (batch_ids_more batches at c.batch-item.result c.loop-batch-test.true c.batch-item.is there)
          (c.in_ok-hold_batch.ensures.told (both there (batch_ids (take at batches))) (c.loop-batch.invariant.0 there knows)),
      add_both block c.args.holders.now c.loop-batch.holders c.hold_batch.new.holders c.loop-batch.invariant.1 c.in_ok-hold_batch.ensures.adds,
      c.in_ok-hold_batch.ensures.same ∙ c.loop-batch.invariant.2,
    )

pub returns-in_err-hold_batch-clause-adds : goal.returns-in_err-hold_batch-clause-adds
returns-in_err-hold_batch-clause-adds c =
    add_both (arc_value c.args.block.now) c.args.holders.now c.loop-batch.holders c.hold_batch.new.holders c.loop-batch.invariant.1
    c.in_err-hold_batch.ensures.adds

pub returns-in_err-hold_batch-clause-same : goal.returns-in_err-hold_batch-clause-same
returns-in_err-hold_batch-clause-same c = c.in_err-hold_batch.ensures.same ∙ c.loop-batch.invariant.2

pub returns-clause-told : goal.returns-clause-told
returns-clause-told c = λ there knows.
    subst (λ (batches : List BatchRecord). KnowsWith (arc_value c.args.block.now) c.loop-batch.holders c.loop-batch.kept (both there (batch_ids batches)))
    (take_all c.loop-batch.batch-index c.args.batches.now c.loop-batch-test.false) (c.loop-batch.invariant.0 there knows)
