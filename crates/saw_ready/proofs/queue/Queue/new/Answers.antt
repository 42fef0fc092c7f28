use Rattle.std.proofs.Common.{◌≡◌, ◌<◌, ℕ, length, get_or, rules, ◌∙◌, sym}
use Rattle.std.proofs.lemmas.List.{get_or-replicate}
use Rattle.saw_ready.specs.Layouts.{IsLayout}
use Rattle.saw_ready.specs.declared.slot_state.SlotState.TheVariants.{Waiting}
use Rattle.saw_ready.proofs.Keeping.{all-waiting, kept-new}
use Rattle.saw_ready.proofs.queue.Queue.new.Goals as goal

pub invariant_of-result : goal.invariant_of-result
invariant_of-result c =
    let layout = c.in_ok-layout.layout in
    let count = c.len-count.result in
    let marks = c.in_ok-marks.marks.items in
    let lowest = c.in_ok-lowest.lowest.items in
    let is = c.deref.ensures.value in
    let e = c.begin_all.ensures in
    let len : length marks ≡ count = search rules in
    let low_long : length lowest ≡ count = search rules in
    let starts_long : length c.args.starts.items ≡ count = search rules in
    let all : (i : ℕ) → get_or marks i Waiting ≡ Waiting =
    λ i. rw (c.in_ok-marks.ensures.items_if_clones_equal (λ y h. h)) (all-waiting count i) in
    let none : (i : ℕ) → i < length marks → get_or lowest i 0 ≡ length marks =
    λ i lt. rw (c.in_ok-lowest.ensures.items_if_clones_equal (λ y h. h), len) (get_or-replicate count i count 0 (rw len at lt)) in
    let is_layout : IsLayout layout (length marks) = rw (len, ← starts_long) c.in_ok-layout.ensures.are in
    kept-new layout marks c.begin_all.new.cursors.items lowest c.begin_all.new.ready is_layout all (rw is at e.points) (rw is at e.begun)
    (low_long ∙ sym len) none (rw is at e.flags) (rw is at e.ready)
