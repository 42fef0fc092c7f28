use Rattle.std.proofs.Common.{◌≡◌, []}
use Rattle.saw_station.specs.Serving.{processors_at}
use Rattle.saw_crew.proofs.Apart.{HasGoneTo}
use Rattle.saw_crew.proofs.lanes.run_lane.Given as goal

abbrev pub invariant-loop-k : goal.invariant-loop-k
invariant-loop-k g l = record {
  offers : l.desk.offers ≡ [];
  gone : HasGoneTo (processors_at g.R.Station.next g.R.Station.tells []) (g.B.Base.entry l.base) l.lane l.k l.lanes l.batches l.results l.state l.failed;
}
