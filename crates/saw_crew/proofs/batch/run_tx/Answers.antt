use Rattle.std.proofs.Common.{ap, ◌∙◌}
use Rattle.std.specs.Arc.{arc_value}
use Rattle.saw_context.specs.Serial.{names_one}
use Rattle.saw_messages.specs.declared.tx.Tx.{Tx}
use Rattle.saw_station.specs.Serving.{processors_at}
use Rattle.saw_crew.proofs.Depending.{outcome_plain}
use Rattle.saw_crew.proofs.batch.run_tx.Goals as goal

pub returns-clause-outcome : goal.returns-clause-outcome
returns-clause-outcome g c = λ failed holds.
    rw c.into_outcome.ensures (outcome_plain (processors_at g.R.Station.next g.R.Station.tells c.args.desk.now.offers) (g.B.Base.entry c.args.base.now)
    (arc_value c.in_ok-clone.field-0) (arc_value c.args.tx.now)
    (arc_value c.in_ok-new.field-0) (record { layers = c.new.result; inputs = c.new-2.result }) c.names_one.result (names_one (arc_value c.args.tx.now) failed) _
    c.in_ok-clone.ensures.cases c.in_ok-new.ensures.ok c.new.ensures
    (c.names_one.ensures failed holds ∙ ap (λ (t : Tx). names_one t failed) c.deref.ensures)
    c.in_ok-run_one.ensures.outcome)
