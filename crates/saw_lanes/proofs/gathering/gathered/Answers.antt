-- The loop of gathered.
use Rattle.std.proofs.Common.{rules, ◌+◌, sym, subst, take}
use Rattle.saw_lanes.proofs.Merge.{Gathers, gathers_next}
use Rattle.saw_lanes.proofs.gathering.gathered.Goals as goal

pub loop-lane-preserved : goal.loop-lane-preserved
loop-lane-preserved g c =
    subst (λ made. Gathers c.args.parts.items (take (c.loop-lane.lane-index + 1) c.args.lanes.now) made c.next_of.new.rests.items)
    (sym c.in_ok-push-in-Some.ensures.items)
    (gathers_next c.args.parts.items c.args.lanes.now c.loop-lane.lane-index c.loop-lane.made.items c.loop-lane.rests.items
    c.next_of.new.rests.items c.in-Some.item (search rules) c.loop-lane.invariant c.in-Some.ensures)
