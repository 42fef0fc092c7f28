use Rattle.std.proofs.Common.{◌≡◌, drop, take}
use Rattle.saw_rules.specs.Policies.{first_behind, first_fault}
use Rattle.saw_rules.proofs.policy.first_fault.Given as goal

abbrev pub invariant-loop-k : goal.invariant-loop-k
invariant-loop-k g l = record {
  stands : g.P.BlockPolicy.stands l.course (g.B.Base.entry l.parent) l.signer (take l.k l.batches);
  so_far : first_behind g.P.BlockPolicy.fault g.P.BlockPolicy.end_fault (g.B.Base.entry l.parent) l.signer (take l.k l.batches) (drop l.k l.batches)
      ≡ first_fault g.P.BlockPolicy.fault g.P.BlockPolicy.end_fault (g.B.Base.entry l.parent) l.signer l.batches;
}
