use Rattle.indexmap.specs.IndexMap.{values}
use Rattle.saw_receipts.specs.Branches.{branch_of, ids_in}
use Rattle.saw_journal.proofs.KnownBranches.{have_more}
use Rattle.saw_journal.proofs.journal.held_behind.Goals as goal

pub returns-in-Ok-clause-kept : goal.returns-in-Ok-clause-kept
returns-in-Ok-clause-kept c =
    let block = c.args.block.now in
    let blocks = values c.args.blocks.now in
    let holders = c.args.holders.now in
    let there = ids_in (branch_of (λ block. block) blocks block.previous) in
    have_more blocks block holders c.hold_block.new.holders c.args.ids.now c.hold_block.new.kept c.requires.fresh c.in-Ok.ensures.adds c.requires.kept
    (c.in-Ok.ensures.told blocks there c.requires.fresh c.requires.kept.batches c.requires.kept.transactions
    (c.in_ok-kept.ensures holders c.requires.kept))
