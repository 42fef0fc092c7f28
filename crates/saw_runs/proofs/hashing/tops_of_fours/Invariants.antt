use Rattle.std.proofs.Common.{◌≡◌, ◌*◌, map, take}
use Rattle.saw_runs.specs.Lowers.{top_of}
use Rattle.saw_runs.proofs.hashing.tops_of_fours.Given as goal

abbrev pub invariant-loop-k : goal.invariant-loop-k
invariant-loop-k g l = l.tops.items ≡ map (λ run. top_of g.H.NodeHasher.hash_of run.now) (take (l.k * 4) l.runs)
