use Rattle.std.proofs.Common.{◌≡◌, ◌*◌, map}
use Rattle.std.specs.List.{range_with_len}
use Rattle.saw_plan.specs.BatchShapes.{transactions_in, txs_of}
use Rattle.saw_receipts.specs.Shapes.{batch_in}
use Rattle.saw_generate.specs.Draws.{state_after}
use Rattle.saw_generate.specs.Operations.{draws_before}
use Rattle.saw_generate.specs.Signed.{batch_at}
use Rattle.saw_generate.proofs.batches.batches_at.Given as goal

-- the batches so far, as they stand in the block and as they are run
abbrev pub invariant-loop-k : goal.invariant-loop-k
invariant-loop-k g l =
    (l.all.messages
    ≡ map (batch_at (record { key = g.G.Signer.key_text l.signer; signature = g.G.Signer.signature l.signer }) l.wish l.b) (range_with_len 0 l.k))
    × (txs_of l.all.reads ≡ txs_of (map batch_in l.all.messages)) × (l.all.ids ≡ map (λ batch. batch.header_signature) l.all.messages)
    × (transactions_in l.all.reads ≡ 2 * l.k) × (l.draws.state ≡ state_after l.wish.start (draws_before l.wish l.b l.k))
