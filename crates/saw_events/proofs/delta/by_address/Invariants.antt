use Rattle.std.proofs.Common.{◌≡◌, take}
use Rattle.std.specs.FinMap as finite
use Rattle.std.specs.List.{flat_map}
use Rattle.saw_events.specs.Events.{last_by_address}
use Rattle.saw_events.proofs.delta.by_address.Given as goal

abbrev pub invariant-loop-batch : goal.invariant-loop-batch
invariant-loop-batch l = finite.from_entries l.last.entries
    ≡ last_by_address (flat_map (λ receipt. receipt.state_changes) (flat_map (λ batch. batch.receipts) (take l.batch-index l.block.batches)))
