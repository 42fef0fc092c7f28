use Rattle.std.proofs.Common.{◌<◌, length, set, refl, ap}
use Rattle.saw_ready.specs.Cursors.{IsDue, IsRefreshed}
use Rattle.saw_ready.specs.Marks.{is_invalid, is_valid}
use Rattle.saw_ready.specs.declared.slot_state.SlotState.TheVariants.{Waiting}
use Rattle.saw_ready.proofs.Keeping.{kept-mark}
use Rattle.saw_ready.proofs.Lowering.{lowest-same}
use Rattle.saw_ready.proofs.queue.Queue.back.Goals as goal

pub invariant_of-self : goal.invariant_of-self
invariant_of-self c =
    let s = c.self.inside in
    let k = c.args.k in
    let marks = s.marks.items in
    let runs = rw (← c.self.view_is) at c.requires.runs in
    let inside : k < length marks = rw (← c.self.view_is) at c.requires.inside in
    let fresh : IsRefreshed (IsDue s.layout.preds (set marks k Waiting) s.cursors.items k) k s.ready c.refresh.new.ready =
    rw (c.deref.ensures.value, c.deref-2.ensures.value) at c.refresh.ensures in
    kept-mark s.layout marks s.first k Waiting s.cursors.items s.lowest.items s.lowest.items s.ready c.refresh.new.ready s.seen inside
    (ap is_valid runs) (ap is_invalid runs) refl refl
    (lowest-same s.layout.starts.items marks s.first k Waiting s.lowest.items inside
    (ap is_invalid runs) refl c.self.invariant.queue.placed.lowest_are)
    fresh.long fresh.at (λ i diff h. fresh.others i h) c.self.invariant.queue c.self.invariant.seen_are
