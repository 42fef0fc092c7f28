use Rattle.std.proofs.Common.{◌≡◌, List, drop, length}
use Rattle.saw_messages.specs.TxShapes.{TxShape}
use Rattle.saw_plan.specs.BatchShapes.{shapes_of}
use Rattle.saw_station.specs.Serving.{processors_at}
use Rattle.saw_crew.specs.Desks.{KeepsDesk}
use Rattle.saw_crew.specs.Failing.{HoldsTxs}
use Rattle.saw_crew.proofs.Members.{HasRun}
use Rattle.saw_crew.proofs.batch.run_batch.Given as goal

-- whatever may come of the rest, the outcomes so far before it may come of the batch
abbrev pub invariant-loop-tx : goal.invariant-loop-tx
invariant-loop-tx g l = record {
  desk : KeepsDesk g.R.Station.faults g.R.Station.offered l.fn.desk l.desk;
  count : l.t ≡ l.tx-index;
  counted : length l.outcomes ≡ l.t;
  run : (others : List TxShape) → HoldsTxs l.failed others → HasRun (processors_at g.R.Station.next g.R.Station.tells l.fn.desk.offers) others
      (g.B.Base.entry l.base) (shapes_of l.txs) l.outcomes l.state (shapes_of (drop l.tx-index l.txs));
}
