use Rattle.std.proofs.Common.{◌≡◌, ◌⊎◌, ℕ, List, true, None}
use Rattle.std.specs.BTreeMap.{btree_map_len}
use Rattle.saw_address.specs.Prefixes.{covers}
use Rattle.saw_predtree.specs.Places.{place_at}
use Rattle.saw_predtree.proofs.put.clear_below.Given as goal

abbrev pub invariant-loop-at : goal.invariant-loop-at
invariant-loop-at l = (q : List ℕ) → (place_at l.places q ≡ place_at l.fn.places q) ⊎ ((place_at l.places q ≡ None) × (covers l.key q ≡ true))

abbrev pub decreases-loop-at : goal.decreases-loop-at
decreases-loop-at l = btree_map_len l.places
