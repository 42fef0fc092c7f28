use Rattle.saw_runs.specs.Entries.{entry_of}
use Rattle.saw_runs.specs.Readings.{found_entry, read_at}
use Rattle.saw_runs.proofs.Noted.{free_by}
use Rattle.saw_runs.proofs.testing.Known.test.Goals as goal

pub returns-in_default-clause-free : goal.returns-in_default-clause-free
returns-in_default-clause-free g c = λ other known. absurd (c.in_default.ensures other known)

pub returns-then-is_same-clause-free : goal.returns-then-is_same-clause-free
returns-then-is_same-clause-free g c =
    free_by (read_at c.args.self.now.tables.now) c.args.self.now.before.now c.args.new.now.hash (found_entry c.in-Some.kept)
    (found_entry c.found_of.result) (entry_of c.args.new.now.piece) c.requires.sound.clear c.in-Some.ensures (c.is_same.ensures.0 c.if-is_same.true)
    c.found_of.ensures
