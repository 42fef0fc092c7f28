use Rattle.saw_runs.proofs.Adding.{nothing_read}
use Rattle.saw_runs.proofs.tables.Tables.new.Goals as goal

pub returns : goal.returns
returns g c = nothing_read c.new-2.result.entries c.in_ok-new.field-0 c.new-2.ensures.empty c.in_ok-new.ensures
