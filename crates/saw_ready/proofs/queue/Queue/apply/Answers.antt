use Rattle.std.proofs.Common.{◌≡◌, ◌≤◌, ◌<◌, ℕ, true, length, get_or}
use Rattle.saw_ready.specs.Marks.{is_valid}
use Rattle.saw_ready.specs.declared.slot_state.SlotState.TheVariants.{Waiting}
use Rattle.saw_ready.proofs.Keeping.{kept-first}
use Rattle.saw_ready.proofs.queue.Queue.apply.Goals as goal

pub invariant_of-self : goal.invariant_of-self
invariant_of-self c =
    let s = c.self.inside in
    let end = c.args.end in
    let within : (s.first ≤ end) × (end ≤ length s.marks.items) = rw (← c.self.view_is) at c.requires.within in
    let valid : (j : ℕ) → s.first ≤ j → j < end → is_valid (get_or s.marks.items j Waiting) ≡ true =
    rw (← c.self.view_is) at c.requires.valid in
    kept-first s.layout s.marks.items s.first end s.cursors.items s.lowest.items s.ready s.seen within.0 within.1 valid c.self.invariant
