use Rattle.std.proofs.Common.{◌≡◌, map, take}
use Rattle.saw_runs.specs.Lowers.{top_of}
use Rattle.saw_runs.proofs.hashing.tops_of.Given as goal

abbrev pub invariant-loop-at : goal.invariant-loop-at
invariant-loop-at g l = l.tops.items ≡ map (λ run. top_of g.H.NodeHasher.hash_of run.now) (take l.at l.runs)
