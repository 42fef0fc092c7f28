use Rattle.std.proofs.Common.{◌≡◌, [], take, drop, map}
use Rattle.std.specs.Arc.{arc_value}
use Rattle.saw_checks.specs.BatchFaults.{ids_of, txs_fault}
use Rattle.saw_checks.specs.Readings.{AreTxsOf}
use Rattle.saw_ids.specs.Seen.{HoldsIds}
use Rattle.saw_checks.proofs.transactions.check_txs.Given as goal

abbrev pub invariant-loop-t : goal.invariant-loop-t
invariant-loop-t g l = record {
  read : AreTxsOf (take l.t l.txs) (map arc_value l.reads);
  holds : HoldsIds l.seen (ids_of (take l.t l.txs));
  so_far : txs_fault (g.V.Verifier.accepts l.verifier) l.signer [] 0 l.txs ≡ txs_fault (g.V.Verifier.accepts l.verifier) l.signer
      (ids_of (take l.t l.txs)) l.t (drop l.t l.txs);
}
