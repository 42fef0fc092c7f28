use Rattle.std.proofs.Common.{◌≡◌, ℕ, ◌+◌, List, drop, ap, subst, arith}
use Rattle.std.specs.Arc.{arc_value}
use Rattle.std.proofs.lemmas.List.{drop_all}
use Rattle.saw_address.specs.Maps.{StateMap}
use Rattle.saw_context.specs.Outcome.{Processors, map_after}
use Rattle.saw_context.specs.Possible.{MayCome, MayComeOfBatch}
use Rattle.saw_context.specs.Serial.{names_one}
use Rattle.saw_context.specs.declared.batch_result.BatchResult.TheVariants.{Failed}
use Rattle.saw_messages.specs.TxShapes.{TxShape}
use Rattle.saw_messages.specs.declared.outcome.Outcome.{Outcome}
use Rattle.saw_messages.specs.declared.outcome.Outcome.TheVariants as outcomes
use Rattle.saw_plan.specs.BatchShapes.{shapes_of}
use Rattle.saw_station.specs.Serving.{processors_at}
use Rattle.saw_station.specs.declared.offer.Offer.{Offer}
use Rattle.saw_crew.specs.Failing.{IsOutcome}
use Rattle.saw_crew.proofs.Leaving.{keeps_trans}
use Rattle.saw_crew.proofs.Members.{HasRun, run_more, run_failed, run_ended, length-push, shapes-drop}
use Rattle.saw_crew.proofs.batch.run_batch.Goals as goal

pub returns-in-Invalid-clause-result : goal.returns-in-Invalid-clause-result
returns-in-Invalid-clause-result g c = λ others holds.
    let l = c.loop-tx in
    let at : List Offer → Processors = processors_at g.R.Station.next g.R.Station.tells in
    let processors : Processors = at c.args.desk.now.offers in
    let start : StateMap = g.B.Base.entry c.args.base.now in
    let all : List TxShape = shapes_of c.args.txs.now in
    let tx : TxShape = arc_value c.tx-item.result in
    let cut = shapes-drop c.args.txs.now l.tx-index c.tx-item.result c.loop-tx-test.true c.tx-item.is in
    let run = subst (HasRun processors others start all l.outcomes l.state) cut (l.invariant.run others holds) in
    let outcome = subst (λ (offers : List Offer). IsOutcome (at offers) c.args.failed.now l.state tx c.in_ok-outcome.outcome) l.invariant.desk.offers
    c.in_ok-outcome.ensures.outcome in
    subst (λ (t : ℕ). MayComeOfBatch processors others start all (Failed t c.in-Invalid.reason)) l.invariant.counted
    (run_failed processors others start all l.outcomes l.state tx (shapes_of (drop (l.tx-index + 1) c.args.txs.now)) run c.in-Invalid.reason
    (subst (MayCome processors tx l.state (names_one tx others)) c.in-Invalid.is (outcome others holds)))

pub loop-tx-preserved : goal.loop-tx-preserved
loop-tx-preserved g c =
    let l = c.loop-tx in
    let at : List Offer → Processors = processors_at g.R.Station.next g.R.Station.tells in
    let processors : Processors = at c.args.desk.now.offers in
    let start : StateMap = g.B.Base.entry c.args.base.now in
    let all : List TxShape = shapes_of c.args.txs.now in
    let tx : TxShape = arc_value c.tx-item.result in
    let one : Outcome = outcomes.Ok c.in-Ok.changes c.in-Ok.events in
    let cut = shapes-drop c.args.txs.now l.tx-index c.tx-item.result c.loop-tx-test.true c.tx-item.is in
    let outcome = subst (λ (offers : List Offer). IsOutcome (at offers) c.args.failed.now l.state tx c.in_ok-outcome.outcome) l.invariant.desk.offers
    c.in_ok-outcome.ensures.outcome in
    let changed : c.change_all.new.self ≡ map_after l.state c.in-Ok.changes = rw (← c.as_slice.ensures) c.in_ok-change_all-in-Ok.ensures.ok in
    rw (c.in_ok-push.ensures.ok, c.in-Ok.is) (record {
      desk = keeps_trans g.R.Station.faults g.R.Station.offered c.args.desk.now l.desk c.run_tx.new.desk l.invariant.desk c.in_ok-outcome.ensures.desk.keeps;
      count = omega arith;
      counted = length-push l.outcomes one l.t l.invariant.counted;
      run = λ others holds.
          run_more processors others start all l.outcomes l.state tx (shapes_of (drop (l.tx-index + 1) c.args.txs.now))
          (subst (HasRun processors others start all l.outcomes l.state) cut (l.invariant.run others holds))
          c.change_all.new.self c.in-Ok.changes c.in-Ok.events
          (subst (MayCome processors tx l.state (names_one tx others)) c.in-Ok.is (outcome others holds))
          changed;
    })

pub returns-clause-result : goal.returns-clause-result
returns-clause-result g c = λ others holds.
    let l = c.loop-tx in
    let none = ap shapes_of (drop_all l.tx-index c.args.txs.now (omega arith)) in
    run_ended (processors_at g.R.Station.next g.R.Station.tells c.args.desk.now.offers) others (g.B.Base.entry c.args.base.now)
    (shapes_of c.args.txs.now) l.outcomes l.state
    (shapes_of (drop l.tx-index c.args.txs.now)) none (l.invariant.run others holds)
