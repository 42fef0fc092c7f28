use Rattle.std.proofs.Common.{◌≡◌, ◌<◌, ℕ, false, get_or}
use Rattle.saw_ready.specs.Marks.{is_invalid}
use Rattle.saw_ready.specs.Resets.{AreMatesFlagged}
use Rattle.saw_ready.specs.declared.slot_state.SlotState.TheVariants.{Waiting}
use Rattle.saw_ready.proofs.reset.next_invalid.Given as goal

abbrev pub invariant-loop-mate : goal.invariant-loop-mate
invariant-loop-mate l = record {
  fine : (j : ℕ) → l.k < j → j < l.mate → is_invalid (get_or l.marks j Waiting) ≡ false;
  mates : AreMatesFlagged l.layout.preds l.layout.starts.items l.marks l.cursors l.k l.mate l.fn.ready l.ready;
}
