use Rattle.std.proofs.Common.{◌≡◌, ◌<◌, length, get_or, set, min, refl, ap, arith, length-set}
use Rattle.std.proofs.lemmas.List.{get_or_read}
use Rattle.saw_ready.specs.Marks.{is_invalid, is_valid}
use Rattle.saw_ready.specs.declared.slot_state.SlotState.TheVariants.{Invalid}
use Rattle.saw_ready.proofs.Keeping.{kept-mark, never-due}
use Rattle.saw_ready.proofs.Lowering.{lowest-set}
use Rattle.saw_ready.proofs.queue.Queue.invalid.Goals as goal

pub invariant_of-self : goal.invariant_of-self
invariant_of-self c =
    let s = c.self.inside in
    let k = c.args.k in
    let marks = s.marks.items in
    let lowest = s.lowest.items in
    let starts = s.layout.starts.items in
    let p = c.self.invariant.queue.placed in
    let all_start = p.is_layout.all_start in
    let all_low = p.all_low in
    let runs = rw (← c.self.view_is) at c.requires.runs in
    let inside : k < length marks = rw (← c.self.view_is) at c.requires.inside in
    let start = get_or_read starts k c.index-start.result.now (rw all_start inside) c.index-start.ensures 0 in
    let low = p.is_layout.starts_are.low k (rw all_start inside) in
    let fits : get_or starts k 0 < length lowest = omega (arith, low, inside, all_low) in
    let was : c.index.result.now ≡ get_or lowest (get_or starts k 0) 0 =
    rw start at (get_or_read lowest c.index-start.result.now c.index.result.now (rw start fits) c.index.ensures 0) in
    let least : c.min.result ≡ min (get_or lowest (get_or starts k 0) 0) k = rw was at c.min.ensures in
    rw (start, least)
    (kept-mark s.layout marks s.first k Invalid s.cursors.items lowest
    (set lowest (get_or starts k 0) (min (get_or lowest (get_or starts k 0) 0) k)) s.ready s.ready s.seen inside (ap is_valid runs)
    (ap is_invalid runs) refl
    (length-set lowest (get_or starts k 0) (min (get_or lowest (get_or starts k 0) 0) k))
    (lowest-set starts marks s.first k lowest inside fits p.lowest_are)
    refl (λ due. absurd (never-due s.layout marks s.first k Invalid inside s.cursors.items refl due))
    (λ i diff h. h) c.self.invariant.queue c.self.invariant.seen_are)
