use Rattle.std.proofs.Common.{◌<◌, List, length, sym, ap, ◌∙◌, refl, subst, length-set}
use Rattle.saw_ready.specs.Cursors.{AreFlagged, AreHalfCursors}
use Rattle.saw_ready.specs.Edges.{begin}
use Rattle.saw_ready.specs.Marks.{is_invalid, is_valid}
use Rattle.saw_ready.specs.declared.slot_state.SlotState.{SlotState}
use Rattle.saw_ready.specs.declared.slot_state.SlotState.TheVariants.{Valid}
use Rattle.saw_ready.proofs.Keeping.{flagged-set, kept-valid, never-due}
use Rattle.saw_ready.proofs.Releasing.{half-start}
use Rattle.saw_ready.proofs.queue.Queue.valid.Goals as goal

pub release-requires-clause-half : goal.release-requires-clause-half
release-requires-clause-half c =
    let s = c.self.inside in
    let k = c.args.k in
    let p = c.self.invariant.queue.placed in
    let inside : k < length s.marks.items = rw (← c.self.view_is) at c.requires.inside in
    subst (λ (ms : List SlotState). AreHalfCursors s.layout.preds s.layout.succs ms s.first k (begin s.layout.succs k) s.cursors.items)
    (sym c.deref.ensures.value)
    (half-start s.layout.preds s.layout.succs s.marks.items s.first s.cursors.items k inside p.is_layout.both.turned p.cursors_are)

pub release-requires-clause-flagged : goal.release-requires-clause-flagged
release-requires-clause-flagged c =
    let s = c.self.inside in
    let k = c.args.k in
    let runs = rw (← c.self.view_is) at c.requires.runs in
    let inside : k < length s.marks.items = rw (← c.self.view_is) at c.requires.inside in
    subst (λ (ms : List SlotState). AreFlagged s.layout.preds s.layout.starts.items ms s.first s.cursors.items s.ready)
    (sym c.deref.ensures.value)
    (flagged-set s.layout s.marks.items s.first k Valid inside s.cursors.items s.ready s.ready (ap is_invalid runs)
    (λ due. absurd (never-due s.layout s.marks.items s.first k Valid inside s.cursors.items refl due))
    (λ i diff h. h) c.self.invariant.queue.flagged)

pub invariant_of-self : goal.invariant_of-self
invariant_of-self c =
    let s = c.self.inside in
    let k = c.args.k in
    let marks = s.marks.items in
    let runs = rw (← c.self.view_is) at c.requires.runs in
    let inside : k < length marks = rw (← c.self.view_is) at c.requires.inside in
    kept-valid s.layout marks s.first k s.cursors.items c.release.new.cursors.items s.lowest.items s.ready c.release.new.ready s.seen
    inside (ap is_valid runs) (ap is_invalid runs)
    (rw c.deref.ensures.value at c.release.ensures.points ∙ length-set marks k Valid)
    (rw c.deref.ensures.value at c.release.ensures.cursors_are)
    (rw c.deref.ensures.value at c.release.ensures.long ∙ length-set marks k Valid)
    (rw c.deref.ensures.value at c.release.ensures.flagged) c.self.invariant
