use Rattle.std.proofs.Common.{◌≡◌, List, [], ◌++◌, drop}
use Rattle.saw_messages.specs.TxShapes.{BatchShape}
use Rattle.saw_publish.specs.Judging.{policy_fates}
use Rattle.saw_publish.proofs.judge.policy_fates.Given as goal

abbrev pub invariant-loop-batch : goal.invariant-loop-batch
invariant-loop-batch g l =
    let m = g.B.Base.entry l.parent in
    (passed : List BatchShape) × g.P.BlockPolicy.stands l.course m l.signer passed
    × (l.fates ++ policy_fates g.P.BlockPolicy.fault m l.signer passed (drop l.batch-index l.batches)
    ≡ policy_fates g.P.BlockPolicy.fault m l.signer [] l.batches)
