-- What a schedule keeps while a transaction is taken.
use Rattle.std.proofs.Common.{◌≡◌, ◌≤◌, ◌+◌, ℕ, false, true, List, [], ◌∷◌, length, get_or, set, Option, Some, None, slice_get, refl, sym, ap, subst, ◌∙◌, arith, inl, inr, true≢false}
use Rattle.std.proofs.lemmas.List.{set-get_or, set-set}
use Rattle.std.specs.FinMap as finite
use Rattle.std.specs.Global.{Global}
use Rattle.std.specs.declared.sync.Arc.{Arc}
use Rattle.std.specs.declared.vec.Vec.{Vec}
use Rattle.saw_messages.specs.declared.tx.Tx.{Tx}
use Rattle.saw_machine.specs.Laws.{last_below}
use Rattle.saw_machine.specs.Machine.{State}
use Rattle.saw_machine.specs.Machine as machine
use Rattle.saw_machine.proofs.Attempts.{attempts-move, attempts-start}
use Rattle.saw_ready.specs.Marks.{is_valid, is_waiting}
use Rattle.saw_ready.specs.Queues.{MayTake, Waits, with_mark}
use Rattle.saw_ready.specs.Sets.{IsEmpty}
use Rattle.saw_ready.specs.declared.edges.Edges.{Edges}
use Rattle.saw_ready.specs.declared.slot_state.SlotState.{SlotState}
use Rattle.saw_ready.specs.declared.slot_state.SlotState.TheVariants as marks
use Rattle.saw_schedule.specs.Histories.{History, after_steps, move_of, order_in, sizes_in, start_of, state_of, txs_in}
use Rattle.saw_schedule.specs.Inside.{IsScheduleOf}
use Rattle.saw_schedule.specs.Layering.{AreLastsOf}
use Rattle.saw_schedule.specs.Orders.{order_of}
use Rattle.saw_schedule.specs.Shown.{is_held_at, last_held, shown_at, shown_by}
use Rattle.saw_schedule.specs.declared.kept.Kept.{Kept}
use Rattle.saw_schedule.specs.declared.lasts.Lasts.{Lasts}
use Rattle.saw_schedule.specs.declared.lasts.Left.{Left}
use Rattle.saw_schedule.specs.declared.slots.Slots.{Slots}
use Rattle.saw_schedule.specs.declared.step.Step.{Step}
use Rattle.saw_messages.specs.TxShapes.{TxShape}
use Rattle.saw_schedule.proofs.Undoing.{Puts, marked-on, marked-shown, through}
use Rattle.saw_schedule.proofs.Showings.{shown-is-last}

-- where all steps were gone through and no result was undone, each address is right
pub all-shown : (steps : List Step) (slots : Slots) (lasts : Lasts) → AreLastsOf steps slots lasts → lasts.place ≡ length steps → IsEmpty lasts.undone
    → lasts.wide ≡ true → (at : List ℕ) → finite.get lasts.layers at ≡ shown_at steps slots at
all-shown steps slots lasts are place none wide at = elim (are.shown at) [
  | inl right ↦ right wide ∙ ap (λ (all : List Left). shown_by steps (last_held (is_held_at steps slots) all)) (through steps lasts.place lasts.change place at)
  | inr lost ↦ absurd (true≢false (sym lost.1 ∙ none lost.0))
]

-- the same with another list of changes and more room
pub kept-on : (h : History) (txs : List (Arc Tx Global)) (named : Edges) (slots : Slots) (lasts new : Lasts) (capacity room : ℕ) (queue : Waits) (steps : List Step)
    → IsScheduleOf h txs named slots lasts capacity → AreLastsOf h.steps slots new → new.wide ≡ lasts.wide → length h.steps + slots.running ≤ room → queue ≡ slots.queue → steps ≡ h.steps
    → IsScheduleOf (record { batches = h.batches; steps = steps }) txs named
    (record { queue = queue; ends = slots.ends; hits = slots.hits; kept = slots.kept; verdicts = slots.verdicts; running = slots.running }) new room
kept-on h txs named slots lasts new capacity room queue steps is lefts wide more same steps_are =
    subst (λ (all : List Step). IsScheduleOf (record { batches = h.batches; steps = all }) txs named
    (record { queue = queue; ends = slots.ends; hits = slots.hits; kept = slots.kept; verdicts = slots.verdicts; running = slots.running }) new room) (sym steps_are)
    (subst (λ (q : Waits). IsScheduleOf h txs named (record { queue = q; ends = slots.ends; hits = slots.hits; kept = slots.kept; verdicts = slots.verdicts; running = slots.running }) new room) (sym same)
    (record {
      txs_are = is.txs_are;
      counted = is.counted;
      replay = is.replay;
      long = is.long;
      edges = is.edges;
      earlier = is.earlier;
      names = is.names;
      slots_are = is.slots_are;
      lasts_are = lefts;
      whole = λ narrow. is.whole (sym wide ∙ narrow);
      rising = is.rising;
      room = more;
      few = is.few;
    }))

pub kept-still : (h : History) (txs : List (Arc Tx Global)) (named : Edges) (slots : Slots) (lasts new : Lasts) (capacity : ℕ)
    → IsScheduleOf h txs named slots lasts capacity → AreLastsOf h.steps slots new → new.wide ≡ lasts.wide → IsScheduleOf h txs named slots new capacity
kept-still h txs named slots lasts new capacity is lefts wide = kept-on h txs named slots lasts new capacity capacity slots.queue h.steps is lefts wide is.room refl refl

waiting-is : (m : SlotState) → is_waiting m ≡ true → m ≡ marks.Waiting
waiting-is m e = grind arith

-- what waits again is as before
pub back-is : (q : Waits) (k : ℕ) → MayTake q k → with_mark (with_mark q k marks.Running) k marks.Waiting ≡ q
back-is q k may = ap (λ (all : List SlotState). record { preds = q.preds; starts = q.starts; marks = all; first = q.first })
    (set-set q.marks k marks.Running marks.Waiting
    ∙ (ap (λ (m : SlotState). set q.marks k m) (sym (waiting-is (get_or q.marks k marks.Waiting) may.waiting)) ∙ set-get_or q.marks k marks.Waiting))

waits-not-valid : (m : SlotState) → is_waiting m ≡ true → is_valid m ≡ false
waits-not-valid m e = grind arith

-- a transaction that waits was marked as running
module _ (h : History) (txs : List (Arc Tx Global)) (named : Edges) (slots mid : Slots) (lasts new : Lasts) (capacity k : ℕ)
    (is : IsScheduleOf h txs named slots lasts capacity) (lefts : AreLastsOf h.steps slots new) (none : IsEmpty new.undone) (may : MayTake slots.queue k)
    (queue : mid.queue ≡ with_mark slots.queue k marks.Running) (kept : mid.kept ≡ slots.kept) where
  puts : Puts h.steps slots mid new.undone k marks.Running
  puts = record {
    inside = may.inside;
    queue = queue;
    others = λ j apart. ap (λ (xs : Vec Kept Global). slice_get xs.items j) kept;
    before = waits-not-valid (get_or slots.queue.marks k marks.Waiting) may.waiting;
    after = inl refl;
    apart = λ in_it. absurd (true≢false (sym in_it ∙ none k));
  }

  -- the lists of changes are still right
  pub lefts-taken : AreLastsOf h.steps mid new
  lefts-taken = marked-on h.steps slots mid new k marks.Running lefts puts

  -- what is shown is the last of the changes
  pub shown-taken : (at : List ℕ) → shown_at h.steps mid at ≡ last_below (state_of h).slots (length slots.queue.marks) at
  shown-taken at =
      marked-shown h.steps slots mid new k marks.Running lefts puts at
      ∙ shown-is-last (order_in h) (sizes_in h) (state_of h) h.steps slots is.slots_are is.rising at

pub one-is : (kept : List Kept) (k : ℕ) (x one : Kept) → slice_get kept k ≡ Some x → slice_get kept k ≡ Some one → one ≡ x
one-is kept k x one is_x is_one = ap (kept_or x) (sym is_one ∙ is_x)
  where
    kept_or : Kept → Option Kept → Kept
    kept_or d None = d
    kept_or d (Some one) = one

-- ---- attempts are few

pub attempts-after : (txs : List TxShape) (st : State) (steps : List Step) (i : ℕ) → (after_steps txs st steps).attempts i ≤ st.attempts i + length steps
attempts-after txs st [] i = omega arith
attempts-after txs st (step ∷ steps) i =
    let more = attempts-after txs (machine.next (order_of txs) st (move_of txs st step)) steps i in
    let one = attempts-move (order_of txs) st (move_of txs st step) i in
    omega (arith, more, one)

pub attempts-few : (h : History) (i : ℕ) → (state_of h).attempts i ≤ length h.steps
attempts-few h i =
    let all = attempts-after (txs_in h) (start_of h) h.steps i in
    let none = attempts-start (order_in h) (sizes_in h) i in
    omega (arith, all, none)
