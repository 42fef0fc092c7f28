use Rattle.std.proofs.Common.{sym, ◌∙◌, option_copied}
use Rattle.saw_queries.proofs.Holders.{told, not_told}
use Rattle.saw_queries.proofs.status.status_of.Goals as goal

pub loop-block-preserved-then-holds : goal.loop-block-preserved-then-holds
loop-block-preserved-then-holds c =
    told c.args.batch.now c.loop-block.walk c.next.new.self c.in-Some.block.now (option_copied c.loop-block.found) _ c.in-Some.ensures.some c.loop-block.invariant
    (sym c.holds.ensures ∙ c.if-holds.true)

pub loop-block-preserved : goal.loop-block-preserved
loop-block-preserved c =
    not_told c.args.batch.now c.loop-block.walk c.next.new.self c.in-Some.block.now (option_copied c.loop-block.found) _ c.in-Some.ensures.some c.loop-block.invariant
    (sym c.holds.ensures ∙ c.if-holds.false)
