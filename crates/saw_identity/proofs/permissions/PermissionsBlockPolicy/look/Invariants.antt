use Rattle.std.proofs.Common.{◌≡◌, drop, map}
use Rattle.std.specs.Arc.{arc_value}
use Rattle.saw_identity.specs.Permissions.{txs_denied}
use Rattle.saw_identity.specs.Standing.{Holds}
use Rattle.saw_identity.proofs.permissions.PermissionsBlockPolicy.look.Given as goal

abbrev pub invariant-loop-t : goal.invariant-loop-t
invariant-loop-t g l = Holds l.fn.self (g.B.Base.entry l.parent) → record {
  holds : Holds l.self (g.B.Base.entry l.parent);
  so_far : txs_denied (g.B.Base.entry l.parent) l.t (drop l.t (map arc_value l.txs)) ≡ txs_denied (g.B.Base.entry l.parent) 0 (map arc_value l.txs);
}
