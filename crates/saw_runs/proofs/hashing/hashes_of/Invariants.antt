use Rattle.std.proofs.Common.{◌≡◌, length, map, take}
use Rattle.saw_runs.specs.Lowers.{lower_hash, made_among}
use Rattle.saw_runs.proofs.hashing.hashes_of.Given as goal

-- the hashes up to here, and how many runs are among these kids
abbrev pub invariant-loop-kid : goal.invariant-loop-kid
invariant-loop-kid g l =
    (l.at ≡ length (made_among (take l.kid-index l.kids)))
    × (l.hashes.items ≡ map (λ kid. lower_hash g.H.NodeHasher.hash_of kid.lower) (take l.kid-index l.kids))
