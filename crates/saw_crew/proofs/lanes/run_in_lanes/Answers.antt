use Rattle.std.proofs.Common.{[]}
use Rattle.saw_plan.specs.BatchShapes.{txs_of}
use Rattle.saw_station.specs.Serving.{processors_at}
use Rattle.saw_crew.proofs.Apart.{gathered_come}
use Rattle.saw_crew.proofs.lanes.run_in_lanes.Goals as goal

pub returns : goal.returns
returns g c =
    gathered_come (processors_at g.R.Station.next g.R.Station.tells []) (g.B.Base.entry c.args.base.now) c.in-Some.lanes.items (txs_of c.args.batches.now)
    c.args.count c.in-Ok.came.items c.gathered.result (rw c.in-Some.is at c.in_ok-lanes.ensures) (rw c.as_slice.ensures.value at c.in-Ok.ensures)
    (rw c.as_slice-2.ensures.value at c.gathered.ensures.whole) (rw c.as_slice-2.ensures.value at c.gathered.ensures.parts)
