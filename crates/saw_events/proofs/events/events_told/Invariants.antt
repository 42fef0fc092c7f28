use Rattle.std.proofs.Common.{◌≡◌, ◌++◌, option_copied, take}
use Rattle.std.specs.List.{filter, flat_map}
use Rattle.saw_events.specs.Events.{own_events}
use Rattle.saw_events.specs.Telling.{is_told}
use Rattle.saw_events.proofs.events.events_told.Given as goal

abbrev pub invariant-loop-batch : goal.invariant-loop-batch
invariant-loop-batch l = l.told
    ≡ filter (is_told (option_copied l.wishes)) (own_events l.block)
    ++ filter (is_told (option_copied l.wishes)) (flat_map (λ receipt. receipt.events) (flat_map (λ batch. batch.receipts) (take l.batch-index l.block.batches)))
