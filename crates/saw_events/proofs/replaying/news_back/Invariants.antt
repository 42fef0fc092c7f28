use Rattle.std.proofs.Common.{◌≡◌, ◌++◌, false, length, map, reverse}
use Rattle.std.specs.List.{list_any}
use Rattle.indexmap.specs.IndexMap.{values}
use Rattle.saw_receipts.specs.Branches.{branch_of}
use Rattle.saw_events.specs.Replays.{is_known}
use Rattle.saw_events.proofs.replaying.news_back.Given as goal

abbrev pub invariant-loop-block : goal.invariant-loop-block
invariant-loop-block l = record {
  whole : l.walk ++ reverse (map (λ block. block.now) l.found.items) ≡ branch_of (λ block. block) (values l.blocks) l.head;
  unknown : list_any (is_known l.known) (reverse (map (λ block. block.now) l.found.items)) ≡ false;
}

abbrev pub decreases-loop-block : goal.decreases-loop-block
decreases-loop-block l = length l.walk
