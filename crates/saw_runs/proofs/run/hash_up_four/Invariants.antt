use Rattle.std.proofs.Common.{◌≡◌, ℕ, List, drop}
use Rattle.saw_runs.specs.Runs.{hash_up}
use Rattle.saw_runs.proofs.run.hash_up_four.Given as goal

-- the hash of what was passed of each run
abbrev pub invariant-loop-left : goal.invariant-loop-left
invariant-loop-left g l =
    let above = λ (path bottom : List ℕ). hash_up g.H.NodeHasher.hash_of (drop l.left path) bottom in
    (l.hash_a ≡ above l.path_a l.a.bottom) × (l.hash_b ≡ above l.path_b l.b.bottom)
    × (l.hash_c ≡ above l.path_c l.c.bottom) × (l.hash_d ≡ above l.path_d l.d.bottom)

abbrev pub decreases-loop-left : goal.decreases-loop-left
decreases-loop-left g l = l.left
