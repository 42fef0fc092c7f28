use Rattle.std.proofs.Common.{◌≡◌, drop, take}
use Rattle.saw_runs.specs.Runs.{hash_up}
use Rattle.saw_runs.proofs.testing.parting.Given as goal

-- down to here the runs are the same, and one hash is here
abbrev pub invariant-loop-at : goal.invariant-loop-at
invariant-loop-at g l = record {
  passed : take l.at l.one ≡ take l.at l.two;
  alike : hash_up g.H.NodeHasher.hash_of (drop l.at l.one) l.first ≡ hash_up g.H.NodeHasher.hash_of (drop l.at l.two) l.second;
}
