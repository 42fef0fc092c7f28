use Rattle.std.proofs.Common.{◌+◌, List, drop, ap, subst, arith}
use Rattle.std.proofs.lemmas.List.{drop_all}
use Rattle.saw_address.specs.Maps.{StateMap}
use Rattle.saw_context.specs.Outcome.{Processors}
use Rattle.saw_context.specs.Serial.{failed_with}
use Rattle.saw_messages.specs.TxShapes.{TxShape}
use Rattle.saw_plan.specs.BatchShapes.{txs_of}
use Rattle.saw_station.specs.Serving.{processors_at}
use Rattle.saw_station.specs.declared.offer.Offer.{Offer}
use Rattle.saw_crew.specs.Failing.{IsNext}
use Rattle.saw_crew.proofs.Leaving.{keeps_trans}
use Rattle.saw_crew.proofs.Serially.{HasGone, gone_all, next_gone, txs_of-drop}
use Rattle.saw_crew.proofs.serial.run_serially.Goals as goal

pub loop-batch-preserved : goal.loop-batch-preserved
loop-batch-preserved g c =
    let l = c.loop-batch in
    let at : List Offer → Processors = processors_at g.R.Station.next g.R.Station.tells in
    let processors : Processors = at c.args.desk.now.offers in
    let start : StateMap = g.B.Base.entry c.args.base.now in
    let all : List (List TxShape) = txs_of c.args.batches.now in
    let txs : List TxShape = c.batch-item.result.txs in
    let cut = txs_of-drop c.args.batches.now l.batch-index c.batch-item.result c.loop-batch-test.true c.batch-item.is in
    let next = subst (λ (offers : List Offer). IsNext (at offers) l.state l.failed txs l.results c.run_next.new.state c.run_next.new.failed c.run_next.new.results)
    l.invariant.desk.offers c.in_ok-run_next.ensures.next in
    record {
      desk = keeps_trans g.R.Station.faults g.R.Station.offered c.args.desk.now l.desk c.run_next.new.desk l.invariant.desk c.in_ok-run_next.ensures.desk.keeps;
      others = failed_with l.invariant.others txs next.came;
      failed = next.failed l.invariant.others l.invariant.failed;
      gone = next_gone processors start all l.results c.run_next.new.results l.invariant.others l.state c.run_next.new.state l.failed c.run_next.new.failed
          txs (txs_of (drop (l.batch-index + 1) c.args.batches.now)) next l.invariant.failed
          (subst (HasGone processors start all l.results l.invariant.others l.state) cut l.invariant.gone);
    }

pub returns-clause-results : goal.returns-clause-results
returns-clause-results g c =
    let l = c.loop-batch in
    let none = ap txs_of (drop_all l.batch-index c.args.batches.now (omega arith)) in
    gone_all (processors_at g.R.Station.next g.R.Station.tells c.args.desk.now.offers) (g.B.Base.entry c.args.base.now) (txs_of c.args.batches.now)
    l.results l.invariant.others l.state
    (txs_of (drop l.batch-index c.args.batches.now)) none l.invariant.gone
