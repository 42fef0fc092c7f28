use Rattle.std.proofs.Common.{◌≡◌, List, Option, map, drop, take, length, reverse}
use Rattle.std.specs.Prelude.{option_map}
use Rattle.saw_plan.specs.Sorting.{dropped_by}
use Rattle.saw_plan.specs.declared.sorted.DropCause.{DropCause}
use Rattle.saw_receipts.specs.declared.loss.LossCause.TheVariants.{Static}
use Rattle.saw_publish.proofs.dropped.static_fates.Given as goal

abbrev pub invariant-loop-place : goal.invariant-loop-place
invariant-loop-place l = (causes : List (Option DropCause)) → length causes ≡ l.fn.count → l.fn.dropped ≡ dropped_by 0 causes
    → (l.fates ≡ map (option_map Static) (take l.place causes)) × (reverse l.waiting.items ≡ dropped_by l.place (drop l.place causes))
