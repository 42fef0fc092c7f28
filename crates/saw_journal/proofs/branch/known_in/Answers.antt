use Rattle.std.proofs.Common.{[], List, sym, subst}
use Rattle.indexmap.specs.IndexMap.{values}
use Rattle.saw_plan.specs.SortingSteps.{both}
use Rattle.saw_plan.specs.StaticRules.{Knows}
use Rattle.saw_receipts.specs.Branches.{batch_ids, branch_of, ids_in}
use Rattle.saw_receipts.specs.declared.block.BatchRecord.{BatchRecord}
use Rattle.saw_receipts.specs.declared.block.BlockRecord.{BlockRecord}
use Rattle.saw_journal.proofs.Ids.{CoversIds, opens, closes, gathers_last}
use Rattle.saw_journal.proofs.branch.known_in.Goals as goal

pub loop-block-init : goal.loop-block-init
loop-block-init c =
    let whole = ids_in (branch_of (λ (block : BlockRecord). block) (values c.args.blocks.now) c.args.id.now) in (
      record { batches = []; transactions = [] },
      c.new-known.ensures,
      subst (λ (branch : List BlockRecord). CoversIds (record { batches = []; transactions = [] }) (ids_in branch) whole) (sym c.new-walk.ensures) (opens whole),
    )

pub loop-block-preserved : goal.loop-block-preserved
loop-block-preserved c =
    let i = c.loop-block.invariant in
    let block = c.in-Some.block.now in
    let whole = ids_in (branch_of (λ (block : BlockRecord). block) (values c.args.blocks.now) c.args.id.now) in (
      both i.0 (batch_ids block.batches),
      subst (λ (batches : List BatchRecord). Knows c.add_batches.new.known (both i.0 (batch_ids batches))) c.as_slice.ensures
          (c.in_ok-add_batches.ensures i.0 i.1),
      gathers_last c.loop-block.walk c.next.new.self block c.in-Some.ensures.some i.0 whole i.2,
    )

pub returns : goal.returns
returns c =
    let i = c.loop-block.invariant in
    let whole = ids_in (branch_of (λ (block : BlockRecord). block) (values c.args.blocks.now) c.args.id.now) in
    let left : CoversIds i.0 (record { batches = []; transactions = [] }) whole =
    subst (λ (branch : List BlockRecord). CoversIds i.0 (ids_in branch) whole) c.in_default.ensures.none.0 i.2 in
    closes c.loop-block.known i.0 whole i.1 left
