use Rattle.std.proofs.Common.{◌≡◌, ◌<◌, ◌≤◌, ◌-◌, ℕ, length, get_or}
use Rattle.saw_ready.specs.Hits.{IsIn}
use Rattle.saw_ready.specs.Resets.{AreRenewed, IsOut}
use Rattle.saw_ready.specs.declared.slot_state.SlotState.TheVariants.{Waiting}
use Rattle.saw_ready.proofs.reset.renew.Given as goal

abbrev pub invariant-loop-k : goal.invariant-loop-k
invariant-loop-k l = record {
  same : l.hits ≡ l.fn.hits;
  long : length l.marks.items ≡ length l.fn.marks.items;
  onward : l.end ≤ l.from;
  within : l.from ≤ length l.hits;
  so : AreRenewed l.layout.preds l.layout.starts.items l.hits l.marks.items l.end l.from l.cursors.items l.lowest.items l.ready;
  waits : (i : ℕ) → IsIn l.fn.hits i → i < l.from → get_or l.marks.items i Waiting ≡ Waiting;
  others : (i : ℕ) → IsOut l.fn.hits i → get_or l.marks.items i Waiting ≡ get_or l.fn.marks.items i Waiting;
}

abbrev pub decreases-loop-k : goal.decreases-loop-k
decreases-loop-k l = length l.hits - l.from
