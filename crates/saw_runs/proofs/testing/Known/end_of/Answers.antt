use Rattle.std.proofs.Common.{ap}
use Rattle.saw_runs.specs.Readings.{found_entry, read_at}
use Rattle.saw_runs.proofs.Noted.{no_run}
use Rattle.saw_runs.proofs.testing.Known.end_of.Goals as goal

pub unreachable-requires : goal.unreachable-requires
unreachable-requires g c =
    no_run (read_at c.args.self.now.tables.now) c.args.self.now.before.now c.args.bottom.now c.requires.clear c.requires.ends
    (found_entry c.in-Some-Run.field-0) c.in-Some-Run.field-0-0.now.path.items c.in-Some-Run.field-0-0.now.bottom (c.in-Some-Run.ensures {u = tt})
    (ap found_entry c.in-Some-Run.field-0-is)
