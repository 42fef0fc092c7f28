-- What a schedule keeps is that of its history with one more step.
use Rattle.std.proofs.Common.{◌≡◌, ◌<◌, ◌≤◌, ◌+◌, ℕ, suc, List, [], ◌∷◌, ◌++◌, length, map, sum, Some, None, refl, sym, ap, subst, ◌∙◌, arith, inl, inr}
use Rattle.std.proofs.lemmas.List.{length-append, length-map}
use Rattle.std.proofs.lemmas.List.Sums.{sum_by-cons}
use Rattle.std.proofs.lemmas.Option.{slice_get_cases}
use Rattle.std.specs.Arc.{arc_value}
use Rattle.std.specs.Global.{Global}
use Rattle.std.specs.declared.sync.Arc.{Arc}
use Rattle.saw_messages.specs.TxShapes.{TxShape}
use Rattle.saw_messages.specs.declared.tx.Tx.{Tx}
use Rattle.saw_context.specs.declared.job.Ticket.{Ticket}
use Rattle.saw_messages.specs.declared.outcome.Outcome.TheVariants.{Ok, Invalid}
use Rattle.saw_machine.specs.Machine.{Closed, Held, Running, Runs, Slot, State, Task, Waiting, next}
use Rattle.saw_machine.specs.Orders.{Order}
use Rattle.saw_plan.specs.BatchShapes.{txs_of}
use Rattle.saw_plan.specs.Precedence.{all_txs}
use Rattle.saw_ready.specs.declared.edges.Edges.{Edges}
use Rattle.saw_ready.specs.declared.slot_state.SlotState.TheVariants as marks
use Rattle.saw_schedule.specs.Histories.{History, MayHappen, RunsIn, move_of, order_in, sizes_in, state_of, txs_in, with_step}
use Rattle.saw_schedule.specs.Inside.{AreSlotsOf, DoPlacesRise, IsRunning, IsScheduleOf}
use Rattle.saw_schedule.specs.Shows.{mark_of}
use Rattle.saw_schedule.specs.Layering.{AreLastsOf}
use Rattle.saw_schedule.specs.declared.kept.Kept.{Kept}
use Rattle.saw_schedule.specs.declared.lasts.Lasts.{Lasts}
use Rattle.saw_schedule.specs.declared.slots.Slots.{Slots}
use Rattle.saw_schedule.specs.declared.step.Step.{Step}
use Rattle.saw_schedule.proofs.Reached.{history-spans, replay-with_step, state-with_step}
use Rattle.saw_schedule.proofs.SlotChanges.{Changes, changed, slot-changes}

-- ---- what runs

by-mark : (slot : Slot) → mark_of slot ≡ marks.Running → (n : ℕ) × (task : Task) × (slot ≡ Running n task)
by-mark Waiting e = absurd (grind arith)
by-mark (Running n task) e = (n, task, refl)
by-mark (Held task (Ok changes events)) e = absurd (grind arith)
by-mark (Held task (Invalid reason)) e = absurd (grind arith)
by-mark Closed e = absurd (grind arith)

module _ (order : Order) (sizes : List ℕ) (st : State) (steps : List Step) (slots : Slots) (are : AreSlotsOf order sizes st steps slots) (ticket : Ticket) where
  pub inside-of : IsRunning slots ticket → ticket.index < length slots.queue.marks
  inside-of runs = elim (slice_get_cases slots.kept.items ticket.index).1 [
    | inl found ↦ let long = are.kept_long in let less : ticket.index < length slots.kept.items = found.1 in omega (arith, long, less)
    | inr past ↦ absurd (some≢none runs.kept (sym runs.stands ∙ past.1))
  ]
    where
      some≢none : (one : Kept) → Some one ≡ None → ⊥
      some≢none one e = grind arith

  pub runs-so : (runs : IsRunning slots ticket) → (task : Task) × Runs st ticket.index ticket.attempt task
  runs-so runs =
      let found = by-mark (st.slots ticket.index) (sym (are.shows.marks ticket.index (inside-of runs)) ∙ runs.mark) in
      let count : suc found.0 ≡ runs.kept.attempts = ((are.kept ticket.index runs.kept runs.stands).running found.0 found.1 found.2).1 in
      let attempt : runs.kept.attempts ≡ suc ticket.attempt = runs.attempt in
      let same : found.0 ≡ ticket.attempt = omega (arith, count, attempt) in
      (found.1, found.2 ∙ ap (λ n. Running n found.1) same)

  pub so-runs : ((j : ℕ) → length slots.queue.marks ≤ j → st.slots j ≡ Waiting) → RunsIn st ticket → IsRunning slots ticket
  so-runs beyond (task, runs) = elim (slice_get_cases slots.kept.items ticket.index).1 [
    | inl found ↦
        let long = are.kept_long in
        let inner : ticket.index < length slots.kept.items = found.1 in
        record {
          kept = found.0;
          stands = found.2;
          mark = are.shows.marks ticket.index (omega (arith, long, inner)) ∙ rw runs refl;
          attempt = sym ((are.kept ticket.index found.0 found.2).running ticket.attempt task runs).1;
        }
    | inr past ↦
        let long = are.kept_long in
        let outer : length slots.kept.items ≤ ticket.index = past.0 in
        absurd (waits≢runs (sym (beyond ticket.index (omega (arith, long, outer))) ∙ runs))
  ]
    where
      waits≢runs : Waiting ≡ Running ticket.attempt task → ⊥
      waits≢runs e = grind arith

-- ---- numbers

pub length-all : (batches : List (List TxShape)) → length (all_txs batches) ≡ sum (map length batches)
length-all [] = refl
length-all (txs ∷ batches) = length-append txs (all_txs batches) ∙ (ap (λ n. length txs + n) (length-all batches) ∙ sym (sum_by-cons (λ n. n) (length txs) (map length batches)))

module _ (h : History) (txs : List (Arc Tx Global)) (named : Edges) (slots : Slots) (lasts : Lasts) (capacity : ℕ) (is : IsScheduleOf h txs named slots lasts capacity) where
  pub marks-all : length slots.queue.marks ≡ sum (sizes_in h)
  marks-all = is.slots_are.shows.count ∙ (history-spans h is.replay).end

  pub txs-all : length txs ≡ length slots.queue.marks
  txs-all = sym (length-map txs arc_value) ∙ (ap (λ (all : List TxShape). length all) is.txs_are ∙ (length-all (txs_of h.batches) ∙ sym marks-all))

  pub beyond-waits : (j : ℕ) → length slots.queue.marks ≤ j → (state_of h).slots j ≡ Waiting
  beyond-waits j l = (history-spans h is.replay).beyond j (rw (← marks-all) l)

  pub runs-iff : (ticket : Ticket) → (IsRunning slots ticket → RunsIn (state_of h) ticket) × (RunsIn (state_of h) ticket → IsRunning slots ticket)
  runs-iff ticket = (
    runs-so (order_in h) (sizes_in h) (state_of h) h.steps slots is.slots_are ticket,
    so-runs (order_in h) (sizes_in h) (state_of h) h.steps slots is.slots_are ticket beyond-waits,
  )

  -- a step that changes one slot
  pub one-step : (step : Step) (new : Slots) (i : ℕ) (slot : Slot) (attempts : ℕ → ℕ) (room : ℕ) → MayHappen (txs_in h) (state_of h) step
      → next (order_in h) (state_of h) (move_of (txs_in h) (state_of h) step) ≡ changed (state_of h) i slot attempts
      → Changes (state_of h) h.steps step slots new i slot attempts → DoPlacesRise (changed (state_of h) i slot attempts) new.kept.items
      → length h.steps + 1 + new.running ≤ room → new.running ≤ length h.steps + 1 → AreLastsOf (h.steps ++ step ∷ []) new lasts
      → IsScheduleOf (with_step h step) txs named new lasts room
  one-step step new i slot attempts room may next_is c rise enough few lasts_on =
      let state : state_of (with_step h step) ≡ changed (state_of h) i slot attempts = state-with_step h step ∙ next_is in
      let long : length (h.steps ++ step ∷ []) ≡ length h.steps + 1 = length-append h.steps (step ∷ []) in
      record {
        txs_are = is.txs_are;
        counted = is.counted;
        replay = replay-with_step h step is.replay may;
        long = is.long;
        edges = is.edges;
        earlier = is.earlier;
        names = is.names;
        slots_are = subst (λ (st : State). AreSlotsOf (order_in h) (sizes_in h) st (h.steps ++ step ∷ []) new) (sym state)
            (slot-changes (order_in h) (sizes_in h) (state_of h) h.steps step slots new i slot attempts is.slots_are c);
        lasts_are = lasts_on;
        whole = is.whole;
        rising = subst (λ (st : State). DoPlacesRise st new.kept.items) (sym state) rise;
        room = rw long enough;
        few = rw long few;
      }
