use Rattle.std.proofs.Common.{ℕ, ◌<◌}
use Rattle.saw_store.specs.Places.{AreNoted, IsFreeAt}
use Rattle.saw_store.proofs.store.NodeStore.test_all.Given as goal

-- no kept node collides with those before this place, and no two of them collide
abbrev pub invariant-loop-at : goal.invariant-loop-at
invariant-loop-at g l = record {
  free : (i : ℕ) → i < l.at → IsFreeAt g.H.NodeHasher.hash_of l.self l.news i;
  noted : AreNoted l.news l.at l.places.entries;
}
