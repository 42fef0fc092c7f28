-- What a schedule keeps before any step.
use Rattle.std.proofs.Common.{true, false, ◌≡◌, ◌<◌, ◌≤◌, ◌^◌, ℕ, zero, suc, List, [], ◌∷◌, length, map, sum, get_or, Option, Some, None, slice_get, vec_capacity, refl, sym, ap, subst, ◌∙◌, arith, Bool, inl, inr, true≢false}
use Rattle.std.proofs.lemmas.List.{length-map}
use Rattle.std.specs.Global.{Global}
use Rattle.std.specs.List.{AllByRecursion}
use Rattle.std.specs.declared.sync.Arc.{Arc}
use Rattle.saw_messages.specs.declared.outcome.Outcome.{Outcome}
use Rattle.saw_messages.specs.TxShapes.{BatchShape, TxShape}
use Rattle.saw_messages.specs.declared.tx.Tx.{Tx}
use Rattle.saw_machine.specs.Machine.{Held, Running, State, Task, Waiting}
use Rattle.saw_machine.specs.Orders.{AreEdgesOf, Order}
use Rattle.saw_plan.specs.BatchShapes.{shapes_of, transactions_in, txs_of}
use Rattle.saw_plan.specs.Precedence.{precedes_in}
use Rattle.saw_plan.specs.declared.plan.Plan.{Plan}
use Rattle.saw_ready.specs.Edges.{AreEarlier, AreEdges}
use Rattle.saw_ready.specs.Layouts.{AreStarts}
use Rattle.saw_ready.specs.Queues.{IsNew, Waits}
use Rattle.saw_ready.specs.Sets.{IsEmpty}
use Rattle.saw_ready.specs.declared.edges.Edges.{Edges}
use Rattle.saw_ready.specs.declared.slot_state.SlotState.{SlotState}
use Rattle.saw_ready.specs.declared.slot_state.SlotState.TheVariants as marks
use Rattle.saw_schedule.specs.Begun.{AreNewSlotsOf, IsNewQueueOf}
use Rattle.saw_schedule.specs.Histories.{begun, order_in, sizes_in, txs_in}
use Rattle.saw_schedule.specs.Inside.{AreSlotsOf, IsScheduleOf, running_in}
use Rattle.saw_schedule.specs.Lasts.{IsNothing}
use Rattle.saw_schedule.specs.Layering.{AreIdle}
use Rattle.saw_schedule.specs.Layout.{ends_of, starts_of}
use Rattle.saw_schedule.specs.Orders.{names_in}
use Rattle.saw_schedule.specs.Settling.{HaveState, IsOpen, LeavesUndone, settled}
use Rattle.saw_schedule.specs.Shows.{is_edge}
use Rattle.saw_schedule.specs.declared.kept.Kept.{Kept}
use Rattle.saw_schedule.specs.declared.lasts.Lasts.{Lasts}
use Rattle.saw_schedule.specs.declared.slots.Slots.{Slots}
use Rattle.saw_schedule.proofs.Counting.{count-cons}
use Rattle.saw_schedule.proofs.Layouts.{length-starts, start-at, starts-are, sum-sizes}
use Rattle.saw_schedule.proofs.Settleds.{settled-rise}
use Rattle.saw_schedule.specs.LookedUp.{do_read_whole}
use Rattle.saw_schedule.proofs.Undoing.{with_undone}

-- all wait, and nothing is settled
abbrev pub initial : List ℕ → State
initial sizes = record { slots = λ i. Waiting; attempts = λ i. 0; results = []; first = 0; rest = sizes }

none-run : (all : List SlotState) → ((i : ℕ) → get_or all i marks.Waiting ≡ marks.Waiting) → running_in all ≡ 0
none-run [] wait = refl
none-run (m ∷ all) wait =
    let here : m ≡ marks.Waiting = wait 0 in
    let more : running_in all ≡ 0 = none-run all (λ i. wait (suc i)) in
    rw here (let c = count-cons marks.Waiting all in omega (arith, c, more))

kept-at : (kept : List Kept) (i : ℕ) (one : Kept) → AllByRecursion (λ k. k.attempts ≡ 0) kept → slice_get kept i ≡ Some one → one.attempts ≡ 0
kept-at [] i one none e = absurd (grind arith)
kept-at (k ∷ kept) zero one none e = ap (attempts_or k) (sym e) ∙ none.0
  where
    attempts_or : Kept → Option Kept → ℕ
    attempts_or d None = d.attempts
    attempts_or d (Some x) = x.attempts
kept-at (k ∷ kept) (suc i) one none e = kept-at kept i one none.1 e

pub record Begins (order : Order) (sizes : List ℕ) (preds : Edges) (slots : Slots) : Type 0 where
  pub queue : IsNew preds (starts_of 0 sizes) slots.queue
  pub edges : AreEdges preds (sum sizes)
  pub earlier : AreEarlier preds (sum sizes)
  pub thin : AreEdgesOf order.precedes (is_edge preds)
  pub ends : slots.ends.items ≡ ends_of 0 sizes
  pub hits_long : length slots.hits ≡ sum sizes
  pub idle : IsEmpty slots.hits
  pub kept_long : length slots.kept.items ≡ sum sizes
  pub untaken : AllByRecursion (λ k. k.attempts ≡ 0) slots.kept.items
  pub verdicts : slots.verdicts.items ≡ []
  pub room : length sizes ≤ vec_capacity slots.verdicts
  pub few : sum sizes < 2 ^ 32

module _ (order : Order) (sizes : List ℕ) (preds : Edges) (slots : Slots) (b : Begins order sizes preds slots) where
  count : length slots.queue.marks ≡ sum sizes
  count = b.queue.long ∙ length-starts 0 sizes

  pub begun-slots : AreSlotsOf order sizes (initial sizes) [] slots
  begun-slots = record {
    shows = record {
      first = b.queue.none_settled;
      count = count ∙ (omega arith);
      marks = λ i less. b.queue.waiting i;
      within = λ i less. rw b.queue.preds_are (b.edges.within i (rw count at less));
      earlier = λ i p less. rw b.queue.preds_are (b.earlier i p (rw count at less));
      edges = rw b.queue.preds_are b.thin;
      starts = λ i from less. rw b.queue.starts_are (start-at sizes i (rw count at less));
    };
    ends = b.ends;
    hits_long = b.hits_long ∙ sym count;
    idle = b.idle;
    kept_long = b.kept_long ∙ sym count;
    kept = λ i one e. record {
      attempts = kept-at slots.kept.items i one b.untaken e;
      running = λ n task w. absurd (waits≢runs n task w);
      held = λ task outcome w. absurd (waits≢holds task outcome w);
    };
    verdicts = rw b.verdicts (refl, refl);
    room = b.room;
    counted = let none = none-run slots.queue.marks b.queue.waiting in omega (arith, none);
    few = rw count b.few;
  }
    where
      waits≢runs : (n : ℕ) (task : Task) → Waiting ≡ Running n task → ⊥
      waits≢runs n task e = grind arith

      waits≢holds : (task : Task) (outcome : Outcome) → Waiting ≡ Held task outcome → ⊥
      waits≢holds task outcome e = grind arith

  pub begun-open : IsOpen (initial sizes)
  begun-open j closed = absurd (grind arith)

  pub begun-state : HaveState [] slots
  begun-state = record { order = order; sizes = sizes; state = initial sizes; open_ = begun-open; are = begun-slots }

-- the whole
pub begun-schedule : (plan : Plan) (txs : List (Arc Tx Global)) (named : Edges) (slots last : Slots) (lasts : Lasts) (before : List Bool) (capacity : ℕ)
    → shapes_of txs ≡ txs_in (begun plan) → length txs < 2 ^ 32
    → AreEdges named (length txs) → AreEarlier named (length txs) → ((i j : ℕ) → j < i → is_edge named j i ≡ names_in (shapes_of txs) i j)
    → AreSlotsOf (order_in (begun plan)) (sizes_in (begun plan)) (settled (order_in (begun plan)) (initial (sizes_in (begun plan)))) [] last
    → last.running ≡ 0 → IsNothing (length txs) (with_undone lasts before) → AreIdle last.queue.marks lasts.undone
    → (lasts.wide ≡ false → do_read_whole txs ≡ true) → IsScheduleOf (begun plan) txs named last lasts capacity
begun-schedule plan txs named slots last lasts before capacity txs_are few edges earlier names are running none idle whole = record {
  txs_are = txs_are;
  counted = few;
  replay = tt;
  long = edges.long;
  edges = edges;
  earlier = earlier;
  names = λ i j less. names i j less ∙ ap (λ (shapes : List _). names_in shapes i j) txs_are;
  slots_are = are;
  lasts_are = record {
    within = rw none.place (omega arith);
    some = rw none.change (omega arith);
    below = λ at. rw (none.none at) tt;
    are = λ at. rw (none.none at, none.place, none.change) refl;
    only = λ at short. none.none at;
    shown = λ at. inl (λ wide. none.no_layers at ∙ rw (none.place, none.change) refl);
    idle = idle;
  };
  whole = whole;
  rising = settled-rise (order_in (begun plan)) (initial (sizes_in (begun plan))) last.kept.items (λ i j one other at v w less a b is_one is_other. absurd (none≢some v a));
  room = rw running (omega arith);
  few = rw running (omega arith);
}
  where
    none≢some : (v : Option (List ℕ)) → None ≡ Some v → ⊥
    none≢some v e = grind arith

-- what was undone while batches without transactions were settled
pub begun-idle : (old new : List SlotState) (undone undone' : List Bool) → LeavesUndone old new undone undone' → length new ≡ length old → length undone ≡ length old → IsEmpty undone → AreIdle new undone'
begun-idle old new undone undone' leaves long same empty = record {
  long = leaves.noted.long ∙ (same ∙ sym long);
  are = λ i in_it. elim (leaves.noted.only i in_it) [
    | inl before ↦ absurd (true≢false (sym before ∙ empty i))
    | inr lost ↦ lost.1
  ];
}

-- ---- as the code begins

module _ (plan : Plan) (txs : List (Arc Tx Global)) (few : length txs < 2 ^ 32) (are : shapes_of txs ≡ txs_in (begun plan)) (count : length txs ≡ transactions_in plan.batches) where
  pub total : length txs ≡ sum (sizes_in (begun plan))
  total = count ∙ sym (sum-sizes plan.batches)

  pub begins : (batches : List BatchShape) (slots : Slots) → batches ≡ plan.batches → AreNewSlotsOf batches txs slots
      → Begins (order_in (begun plan)) (sizes_in (begun plan)) slots.queue.preds slots
  begins batches slots batches_are new = record {
    queue = subst (λ (b : List BatchShape). IsNew slots.queue.preds (starts_of 0 (map length (txs_of b))) slots.queue) batches_are new.queue.new;
    edges = subst (λ (n : ℕ). AreEdges slots.queue.preds n) total new.queue.edges;
    earlier = subst (λ (n : ℕ). AreEarlier slots.queue.preds n) total new.queue.earlier;
    thin = subst (λ (shapes : List TxShape). AreEdgesOf (precedes_in shapes) (is_edge slots.queue.preds)) are new.queue.thin;
    ends = new.ends ∙ ap (λ (b : List BatchShape). ends_of 0 (map length (txs_of b))) batches_are;
    hits_long = new.hits_long ∙ total;
    idle = new.idle;
    kept_long = new.kept_long ∙ total;
    untaken = new.untaken;
    verdicts = new.verdicts;
    room = subst (λ (n : ℕ). n ≤ vec_capacity slots.verdicts) long new.room;
    few = subst (λ (n : ℕ). n < 2 ^ 32) total few;
  }
    where
      long : length batches ≡ length (sizes_in (begun plan))
      long = ap (λ (b : List BatchShape). length b) batches_are
          ∙ sym (length-map (txs_of plan.batches) (λ (txs : List TxShape). length txs) ∙ length-map plan.batches (λ (b : BatchShape). b.txs))

  -- each transaction has its mark
  pub long-marks : (batches : List BatchShape) (slots : Slots) → batches ≡ plan.batches → AreNewSlotsOf batches txs slots → length txs ≡ length slots.queue.marks
  long-marks batches slots batches_are new =
      let is : starts_of 0 (map length (txs_of batches)) ≡ starts_of 0 (sizes_in (begun plan)) = ap (λ (b : List BatchShape). starts_of 0 (map length (txs_of b))) batches_are in
      total ∙ sym (new.queue.new.long ∙ (ap (λ (l : List ℕ). length l) is ∙ length-starts 0 (sizes_in (begun plan))))

-- what the starts of the batches are
pub starts-right : (batches : List BatchShape) (txs : List (Arc Tx Global)) (starts : List ℕ) → length txs ≡ transactions_in batches → starts ≡ starts_of 0 (map length (txs_of batches))
    → (length txs ≡ length starts) × AreStarts starts
starts-right batches txs starts count starts_are = (
  count ∙ (sym (sum-sizes batches) ∙ sym (ap (λ (l : List ℕ). length l) starts_are ∙ length-starts 0 (map length (txs_of batches)))),
  subst (λ (l : List ℕ). AreStarts l) (sym starts_are) (starts-are (map length (txs_of batches))),
)

-- a queue that was made of them
pub new-queue : (batches : List BatchShape) (txs : List (Arc Tx Global)) (preds : Edges) (starts : List ℕ) (queue : Waits) → starts ≡ starts_of 0 (map length (txs_of batches))
    → AreEdges preds (length txs) → AreEarlier preds (length txs) → AreEdgesOf (precedes_in (shapes_of txs)) (is_edge preds) → IsNew preds starts queue
    → IsNewQueueOf batches txs queue
new-queue batches txs preds starts queue starts_are edges earlier thin new = record {
  new = record { preds_are = refl; starts_are = new.starts_are ∙ starts_are; long = new.long ∙ ap (λ (l : List ℕ). length l) starts_are; waiting = new.waiting; none_settled = new.none_settled };
  edges = subst (λ (e : Edges). AreEdges e (length txs)) (sym new.preds_are) edges;
  earlier = subst (λ (e : Edges). AreEarlier e (length txs)) (sym new.preds_are) earlier;
  thin = subst (λ (e : Edges). AreEdgesOf (precedes_in (shapes_of txs)) (is_edge e)) (sym new.preds_are) thin;
}
