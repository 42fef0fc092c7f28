use Rattle.saw_plan.specs.BatchShapes.{txs_of}
use Rattle.saw_station.specs.Serving.{processors_at}
use Rattle.saw_crew.specs.Alone.{IsAlone}
use Rattle.saw_crew.specs.Desks.{KeepsDesk}
use Rattle.saw_crew.proofs.Alone.{left_in}
use Rattle.saw_crew.proofs.ending.run_alone.Given as goal

abbrev pub invariant-loop-schedule : goal.invariant-loop-schedule
invariant-loop-schedule g l = record {
  desk : KeepsDesk g.R.Station.faults g.R.Station.offered l.fn.desk l.desk;
  alone : IsAlone (processors_at g.R.Station.next g.R.Station.tells l.fn.desk.offers) (g.B.Base.entry l.base) (txs_of l.plan.batches) l.schedule;
}

abbrev pub decreases-loop-schedule : goal.decreases-loop-schedule
decreases-loop-schedule g l = left_in l.schedule
