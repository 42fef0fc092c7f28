use Rattle.std.proofs.Common.{sym, ◌∙◌}
use Rattle.indexmap.specs.IndexMap.{values}
use Rattle.saw_journal.proofs.Placing.{other_consensus, other_number, placed, unknown}
use Rattle.saw_journal.proofs.place.parent_of.Goals as goal

pub returns-then-is_orphan : goal.returns-then-is_orphan
returns-then-is_orphan c =
    let blocks = values c.args.blocks.now in
    let fresh = sym c.has_block.ensures ∙ c.if-has_block.false in
    let once = sym c.is_other_first.ensures ∙ c.if-is_other_first.false in
    let parent = c.stated_parent-parent in
    unknown blocks c.args.id.now c.args.header.now parent.result parent.ensures fresh once (sym c.is_orphan.ensures ∙ c.if-is_orphan.true)

pub returns-then-header-due : goal.returns-then-header-due
returns-then-header-due c =
    let blocks = values c.args.blocks.now in
    let fresh = sym c.has_block.ensures ∙ c.if-has_block.false in
    let once = sym c.is_other_first.ensures ∙ c.if-is_other_first.false in
    let parent = c.stated_parent-parent in
    let there = sym c.is_orphan.ensures ∙ c.if-is_orphan.false in
    other_number blocks c.args.id.now c.args.header.now parent.result parent.ensures fresh once there c.in_ok-due.due c.in_ok-due.ensures c.if-header-due.true

pub returns-then-has_other_consensus : goal.returns-then-has_other_consensus
returns-then-has_other_consensus c =
    let blocks = values c.args.blocks.now in
    let fresh = sym c.has_block.ensures ∙ c.if-has_block.false in
    let once = sym c.is_other_first.ensures ∙ c.if-is_other_first.false in
    let parent = c.stated_parent-parent in
    let there = sym c.is_orphan.ensures ∙ c.if-is_orphan.false in
    other_consensus blocks c.args.id.now c.args.header.now parent.result parent.ensures fresh once there c.in_ok-due.due c.in_ok-due.ensures
    c.if-header-due.false
    (sym c.has_other_consensus.ensures ∙ c.if-has_other_consensus.true)

pub returns : goal.returns
returns c =
    let blocks = values c.args.blocks.now in
    let fresh = sym c.has_block.ensures ∙ c.if-has_block.false in
    let once = sym c.is_other_first.ensures ∙ c.if-is_other_first.false in
    let parent = c.stated_parent-parent in
    let there = sym c.is_orphan.ensures ∙ c.if-is_orphan.false in (
      placed blocks c.args.id.now c.args.header.now parent.result parent.ensures fresh once there c.in_ok-due.due c.in_ok-due.ensures c.if-header-due.false
          (sym c.has_other_consensus.ensures ∙ c.if-has_other_consensus.false),
      parent.ensures,
    )
