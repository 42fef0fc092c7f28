use Rattle.std.proofs.Common.{◌≡◌, ◌++◌, Some, length, map, reverse}
use Rattle.indexmap.specs.IndexMap.{values}
use Rattle.saw_receipts.specs.Branches.{branch_of}
use Rattle.saw_events.specs.Replays.{replay, told_of}
use Rattle.saw_events.proofs.replaying.replay.Given as goal

abbrev pub invariant-loop-block : goal.invariant-loop-block
invariant-loop-block l = replay (branch_of (λ block. block) (values l.blocks) l.head) l.known l.wishes
    ≡ Some (l.told.items ++ map (told_of l.wishes) (reverse (map (λ block. block.now) l.left.items)))

abbrev pub decreases-loop-block : goal.decreases-loop-block
decreases-loop-block l = length l.left.items
