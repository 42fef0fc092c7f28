use Rattle.std.proofs.Common.{◌∙◌, false, get_or, set, refl, get_or-set_other, length-set}
use Rattle.saw_ready.specs.Kept.{IsQueue, waits_of}
use Rattle.saw_ready.specs.Queues.{MayTake}
use Rattle.saw_ready.specs.declared.slot_state.SlotState.TheVariants.{Running, Waiting}
use Rattle.saw_ready.proofs.Keeping.{kept-mark, never-due}
use Rattle.saw_ready.proofs.Lowering.{lowest-same}
use Rattle.saw_ready.proofs.MarkFacts.{waiting-invalid, waiting-valid}
use Rattle.saw_ready.proofs.queue.Queue.take.Goals as goal

pub invariant_of-self-2 : goal.invariant_of-self-2
invariant_of-self-2 c =
    let s = c.self.inside in
    let k = c.in_ok-k.k in
    let marks = s.marks.items in
    let ready = c.find_ready.new.ready in
    let queue : IsQueue s.layout marks s.first s.cursors.items s.lowest.items ready =
    rw (c.deref.ensures.value, c.deref-2.ensures.value, c.deref-3.ensures.value) at c.find_ready.ensures.queue in
    let may : MayTake (waits_of s.layout marks s.first) k = rw c.deref.ensures.value at c.in_ok-k.ensures.some in
    let v = waiting-valid (get_or marks k Waiting) may.waiting in
    let w = waiting-invalid (get_or marks k Waiting) may.waiting in
    rw c.remove.ensures
    (kept-mark s.layout marks s.first k Running s.cursors.items s.lowest.items s.lowest.items ready
    (set ready k false) s.seen may.inside v w refl refl
    (lowest-same s.layout.starts.items marks s.first k Running s.lowest.items may.inside w refl queue.placed.lowest_are)
    (length-set ready k false)
    (λ due. absurd (never-due s.layout marks s.first k Running may.inside s.cursors.items refl due))
    (λ i diff h. get_or-set_other ready k i false false diff ∙ h) queue c.self.invariant.seen_are)
