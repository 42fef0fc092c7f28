-- The loop of are_spent.
use Rattle.std.proofs.Common.{rules}
use Rattle.saw_lanes.proofs.Merge.{spent_next}
use Rattle.saw_lanes.proofs.gathering.are_spent.Goals as goal

pub loop-rest-preserved : goal.loop-rest-preserved
loop-rest-preserved g c =
    spent_next c.args.rests.now c.loop-rest.rest-index c.rest-item.result (search rules) (search rules) (search rules) c.loop-rest.invariant
