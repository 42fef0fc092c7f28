-- What is left of a lane.
use Rattle.std.proofs.Common.{rules}
use Rattle.saw_lanes.proofs.Merge.{takes_some}
use Rattle.saw_lanes.proofs.gathering.next_of.Goals as goal

pub returns-in-Some : goal.returns-in-Some
returns-in-Some g c =
    takes_some c.args.rests.now.items c.args.lane c.in-Some.rest.now c.next.new.self c.next.result (search rules)
    c.in-Some.ensures.value c.next.ensures
