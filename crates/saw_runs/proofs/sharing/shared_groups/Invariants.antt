use Rattle.std.proofs.Common.{◌-◌}
use Rattle.saw_runs.specs.Readings.{read_at}
use Rattle.saw_runs.proofs.Apart.{PartsLeft}
use Rattle.saw_runs.proofs.sharing.shared_groups.Given as goal

-- the parts so far are put
abbrev pub invariant-loop-part : goal.invariant-loop-part
invariant-loop-part g l =
    PartsLeft g.H.NodeHasher.hash_of (read_at l.tables) l.changes (l.levels - 1) (35 - l.levels) l.path l.before l.fn.news.items l.news.items l.kids.items
    l.part-iterator.rest.items
