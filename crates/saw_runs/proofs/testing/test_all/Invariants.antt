use Rattle.std.proofs.Common.{take}
use Rattle.saw_runs.specs.Apart.{AreNoted, AreSound}
use Rattle.saw_runs.specs.Readings.{read_at}
use Rattle.saw_runs.proofs.testing.test_all.Given as goal

-- what is kept, or new before this place, is sound, and its places are noted
abbrev pub invariant-loop-at : goal.invariant-loop-at
invariant-loop-at g l = record {
  sound : AreSound g.H.NodeHasher.hash_of (read_at l.tables) (take l.at l.news);
  noted : AreNoted (take l.at l.news) l.places.entries;
}
