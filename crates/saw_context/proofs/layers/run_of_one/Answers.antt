use Rattle.std.proofs.Common.{ap}
use Rattle.saw_context.proofs.Runs.{mark_in-one}
use Rattle.saw_context.proofs.layers.run_of_one.Goals as goal

pub returns : goal.returns
returns c = λ q.
    mark_in-one (record { marks = c.new-marks.result }) (record { marks = c.insert.new.self }) c.args.at c.in_ok-new.field-0 c.args.entry c.new-marks.ensures.empty
    (ap (λ mark. mark.entry) c.in_ok-new.ensures.ok) c.in_ok-insert.ensures.updates.0 q
