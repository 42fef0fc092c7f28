use Rattle.std.proofs.Common.{List, drop}
use Rattle.saw_messages.specs.TxShapes.{TxShape}
use Rattle.saw_plan.specs.BatchShapes.{txs_of}
use Rattle.saw_station.specs.Serving.{processors_at}
use Rattle.saw_crew.specs.Desks.{KeepsDesk}
use Rattle.saw_crew.specs.Failing.{HoldsTxs}
use Rattle.saw_crew.proofs.Serially.{HasGone}
use Rattle.saw_crew.proofs.serial.run_serially.Given as goal

-- whatever may come of the rest, the results so far before it may come of all; the set has the ids of the failed batches
abbrev pub invariant-loop-batch : goal.invariant-loop-batch
invariant-loop-batch g l = record {
  desk : KeepsDesk g.R.Station.faults g.R.Station.offered l.fn.desk l.desk;
  others : List TxShape;
  failed : HoldsTxs l.failed others;
  gone : HasGone (processors_at g.R.Station.next g.R.Station.tells l.fn.desk.offers) (g.B.Base.entry l.base) (txs_of l.batches)
      l.results others l.state (txs_of (drop l.batch-index l.batches));
}
