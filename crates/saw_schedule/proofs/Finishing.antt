-- A job ends with a result.
use Rattle.std.proofs.Common.{◌≡◌, ◌≢◌, ◌<◌, ◌≤◌, ◌+◌, ◌-◌, ℕ, Bool, true, false, List, [], ◌∷◌, ◌++◌, length, get_or, Option, Some, None, is_none, slice_get, refl, sym, ap, subst, ◌∙◌, arith, ◌⊎◌, inl, inr, true≢false, length-append}
use Rattle.std.proofs.Math.Path.{fun_ext}
use Rattle.std.proofs.lemmas.Option.{slice_get_cases, slice_get_read}
use Rattle.saw_plan.proofs.Pairs.{shape-at}
use Rattle.saw_schedule.proofs.ScheduleSteps.{txs-all}
use Rattle.std.specs.Arc.{arc_value}
use Rattle.std.specs.FinMap as finite
use Rattle.std.specs.Global.{Global}
use Rattle.std.specs.declared.sync.Arc.{Arc}
use Rattle.saw_messages.specs.declared.outcome.Outcome.{Outcome}
use Rattle.saw_messages.specs.declared.outcome.Outcome.TheVariants.{Ok, Invalid}
use Rattle.saw_messages.specs.declared.tx.Tx.{Tx}
use Rattle.saw_messages.specs.TxShapes.{TxShape}
use Rattle.saw_context.specs.Views.{layers_of}
use Rattle.saw_context.specs.declared.job.Done.{Done}
use Rattle.saw_context.specs.declared.view.View.{View}
use Rattle.saw_machine.specs.Machine.{Closed, Held, Running, Slot, State, Task, Waiting, finished, holds_ok, is_closed, made, next, put, task_in}
use Rattle.saw_machine.specs.Orders.{IsDeclared, Order}
use Rattle.saw_machine.proofs.Lasts.{no-later-write}
use Rattle.saw_machine.proofs.Onwards.{IsOn, on-runs}
use Rattle.saw_machine.proofs.Puts.{put-other, put-same}
use Rattle.saw_ready.specs.Marks.{is_valid}
use Rattle.saw_ready.specs.Queues.{with_mark}
use Rattle.saw_ready.specs.declared.edges.Edges.{Edges}
use Rattle.saw_ready.specs.declared.slot_state.SlotState.TheVariants as marks
use Rattle.saw_schedule.specs.Agreement.{difference_from}
use Rattle.saw_schedule.specs.Histories.{History, IsReplay, difference_in, move_of, moves_of, order_in, sizes_in, start_of, state_of, txs_in, with_step}
use Rattle.saw_schedule.specs.Inside.{AreSlotsOf, DoPlacesRise, IsPlacedAt, IsResultAt, IsRunning, IsScheduleOf, IsTaskOf, one_if_running}
use Rattle.saw_schedule.specs.Layering.{AreLastsOf}
use Rattle.saw_schedule.specs.Places.{place_in}
use Rattle.saw_schedule.specs.Settling.{HaveState, IsOpen, LeavesUndone, settled}
use Rattle.saw_schedule.specs.Shows.{mark_by}
use Rattle.saw_schedule.specs.declared.kept.Kept.{Kept}
use Rattle.saw_schedule.specs.declared.lasts.Lasts.{Lasts}
use Rattle.saw_schedule.specs.declared.slots.Slots.{Slots}
use Rattle.saw_schedule.specs.declared.step.Step.{Step}
use Rattle.saw_schedule.specs.declared.step.Step.TheVariants.{Finish}
use Rattle.saw_schedule.specs.declared.ended.Difference.{Difference}
use Rattle.saw_schedule.proofs.Agreeing.{agreed-declared}
use Rattle.saw_schedule.proofs.GivingBack.{inside, not-undone, running-some, some-run, task-so, unsettled, waits-again}
use Rattle.saw_schedule.proofs.Meetings.{meetings}
use Rattle.saw_schedule.proofs.Reached.{replay-with_step, state-with_step}
use Rattle.saw_schedule.proofs.Replays.{histories-are-lawful, history-legal, history-runs}
use Rattle.saw_schedule.proofs.Settleds.{settled-rise}
use Rattle.saw_schedule.proofs.SlotChanges.{changed, get-last, slot-changes}
use Rattle.saw_schedule.proofs.Undoing.{put-on, settled-on, with_undone}

same-or : (a b : ℕ) → (a ≡ b) ⊎ (a ≢ b)
same-or a b = grind arith

-- what is closed is settled
pub history-open : (h : History) → IsReplay h → IsOpen (state_of h)
history-open h replay = (subst IsOn (history-runs h) (on-runs (order_in h) (sizes_in h) (moves_of (txs_in h) (start_of h) h.steps) (history-legal h replay))).closed

module _ (h : History) (txs : List (Arc Tx Global)) (named : Edges) (slots : Slots) (lasts : Lasts) (capacity : ℕ) (is : IsScheduleOf h txs named slots lasts capacity)
    (done : Done) (runs : IsRunning slots done.ticket) where
  abbrev i : ℕ
  i = done.ticket.index

  abbrev st : State
  st = state_of h

  abbrev task : Task
  task = (task-so h txs named slots lasts capacity is done.ticket runs).0

  running-is : st.slots i ≡ Running done.ticket.attempt task
  running-is = (task-so h txs named slots lasts capacity is done.ticket runs).1

  pub task-of : (one : Kept) → slice_get slots.kept.items i ≡ Some one → IsTaskOf one task
  task-of one e = ((is.slots_are.kept i one e).running done.ticket.attempt task running-is).0

  -- the transaction and what is kept of it, as the code reads them
  pub tx-at : (all : List (Arc Tx Global)) (tx : Arc Tx Global) → all ≡ txs → tx ≡ get_or all i tx → slice_get (txs_in h) i ≡ Some (arc_value tx)
  tx-at all tx same here =
      let inner = inside h txs named slots lasts capacity is done.ticket runs in
      let long = txs-all h txs named slots lasts capacity is in
      ap (λ (shapes : List TxShape). slice_get shapes i) (sym is.txs_are) ∙ shape-at txs i tx (omega (arith, inner, long)) (here ∙ ap (λ (xs : List (Arc Tx Global)). get_or xs i tx) same)

  pub kept-at : (one : Kept) → one ≡ get_or slots.kept.items i one → slice_get slots.kept.items i ≡ Some one
  kept-at one here =
      let inner = inside h txs named slots lasts capacity is done.ticket runs in
      let long = is.slots_are.kept_long in
      slice_get_read slots.kept.items (length slots.kept.items) i one refl (omega (arith, inner, long)) here

  pub tx-inside : (all : List (Arc Tx Global)) → all ≡ txs → i < length all
  tx-inside all same = let inner = inside h txs named slots lasts capacity is done.ticket runs in let long = txs-all h txs named slots lasts capacity is in rw same (omega (arith, inner, long))

  -- the difference that the code finds is the machine's
  pub found-is : (tx : Arc Tx Global) (one : Kept) → slice_get (txs_in h) i ≡ Some (arc_value tx) → (one_is : slice_get slots.kept.items i ≡ Some one)
      → difference_from (arc_value tx) (record { view = (λ at. finite.get (layers_of (arc_value (task-of one one_is).view)) at); failed = one.failed }) done ≡ difference_in (txs_in h) st done
  found-is tx one tx_is one_is =
      let t = task-of one one_is in
      let same : record { view = (λ at. finite.get (layers_of (arc_value t.view)) at); failed = one.failed } ≡ task = λ k. record { view = fun_ext t.shown k; failed = t.failed k } in
      let has : task_in (st.slots i) ≡ Some task = ap task_in running-is in
      ap (λ (x : Task). difference_from (arc_value tx) x done) same ∙ rw (tx_is, has) refl

  pub found-code : (found : Option Difference) (tx : Arc Tx Global) (one : Kept) (shape : TxShape) → slice_get (txs_in h) i ≡ Some (arc_value tx) → slice_get slots.kept.items i ≡ Some one
      → shape ≡ arc_value tx
      → ((view : Arc View Global) → one.view ≡ Some view → found ≡ difference_from shape (record { view = (λ at. finite.get (layers_of (arc_value view)) at); failed = one.failed }) done)
      → found ≡ difference_in (txs_in h) st done
  found-code found tx one shape tx_is one_is shape_is is_found =
      let t = task-of one one_is in
      is_found t.view t.is ∙ (ap (λ (x : TxShape). difference_from x (record { view = (λ at. finite.get (layers_of (arc_value t.view)) at); failed = one.failed }) done) shape_is ∙ found-is tx one tx_is one_is)

  -- ---- a result that differs

  pub refused : (why : Difference) → difference_in (txs_in h) st done ≡ Some why → (new : Slots) (steps : List Step) (room : ℕ)
      → new.queue ≡ with_mark slots.queue i marks.Waiting → new.ends ≡ slots.ends → new.hits ≡ slots.hits → new.verdicts ≡ slots.verdicts
      → length new.kept.items ≡ length slots.kept.items → ((j : ℕ) → j ≢ i → slice_get new.kept.items j ≡ slice_get slots.kept.items j)
      → IsPlacedAt slots.kept.items new.kept.items i (length h.steps)
      → new.running ≡ slots.running - 1 → steps ≡ h.steps ++ Finish done ∷ [] → capacity ≤ room
      → IsScheduleOf (record { batches = h.batches; steps = steps }) txs named new lasts room
  refused why e new steps room queue ends hits verdicts kept_long kept_others kept_here running steps_are more =
      waits-again h txs named slots lasts capacity is done.ticket runs (Finish done) new steps room (task-so h txs named slots lasts capacity is done.ticket runs)
      (ap (λ (d : Option Difference). next (order_in h) st (Rattle.saw_machine.specs.Machine.Finish i done.ticket.attempt done.outcome (is_none d))) e)
      queue ends hits verdicts kept_long kept_others
      (λ one here. (kept_here one runs.kept here runs.stands).attempts ∙ (is.slots_are.kept i runs.kept runs.stands).attempts) running steps_are more

  -- ---- a result that agrees

  module _ (agrees : difference_in (txs_in h) st done ≡ None) where
    abbrev held : Slot
    held = Held task done.outcome

    abbrev mid : State
    mid = changed st i held st.attempts

    next-is : next (order_in h) st (move_of (txs_in h) st (Finish done)) ≡ settled (order_in h) mid
    next-is =
        ap (λ (d : Option Difference). next (order_in h) st (Rattle.saw_machine.specs.Machine.Finish i done.ticket.attempt done.outcome (is_none d))) agrees
        ∙ ap (λ (slot : Slot). settled (order_in h) (changed st i (finished slot done.outcome) st.attempts)) running-is

    declared : IsDeclared (order_in h) i done.outcome
    declared = agreed-declared (txs_in h) st done agrees

    mid-open : IsOpen mid
    mid-open j closed = elim (same-or j i) [
      | inl here ↦ absurd (held≢closed (sym (rw (here, put-same st.slots i held) refl) ∙ closed))
      | inr apart ↦ history-open h is.replay j (sym (rw (put-other st.slots i held j apart) refl) ∙ closed)
    ]
      where
        held≢closed : false ≡ true → ⊥
        held≢closed e = true≢false (sym e)

    -- the places of results rise
    mid-rise : (new : List Kept) → ((j : ℕ) → j ≢ i → slice_get new j ≡ slice_get slots.kept.items j) → ((one : Kept) → slice_get new i ≡ Some one → one.place ≡ length h.steps) → DoPlacesRise mid new
    mid-rise new others here a b one other at v w less made_a made_b is_one is_other = elim (same-or a i) [
      | inl a_is ↦
          let writes : (order_in h).writes i at ≡ true = declared at v (sym (rw (a_is, put-same st.slots i held) refl) ∙ made_a) in
          let b_apart : b ≢ i = λ e. absurd (omega (arith, less, a_is, e)) in
          let none : made (st.slots b) at ≡ None = no-later-write (order_in h) st i b done.ticket.attempt task at (meetings (txs_in h)) (histories-are-lawful h is.replay) running-is writes (omega (arith, less, a_is)) in
          let some : made (st.slots b) at ≡ Some w = sym (rw (put-other st.slots i held b b_apart) refl) ∙ made_b in
          absurd (none≢some w (sym none ∙ some))
      | inr a_apart ↦
          let made_a_old : made (st.slots a) at ≡ Some v = sym (rw (put-other st.slots i held a a_apart) refl) ∙ made_a in
          let one_old : slice_get slots.kept.items a ≡ Some one = sym (others a a_apart) ∙ is_one in
          elim (same-or b i) [
            | inl b_is ↦
                let place : other.place ≡ length h.steps = here other (subst (λ (k : ℕ). slice_get new k ≡ Some other) b_is is_other) in
                let earlier : one.place < length h.steps = placed a one at v one_old made_a_old in
                omega (arith, place, earlier)
            | inr b_apart ↦ is.rising a b one other at v w less made_a_old (sym (rw (put-other st.slots i held b b_apart) refl) ∙ made_b) one_old (sym (others b b_apart) ∙ is_other)
          ]
    ]
      where
        none≢some : (w : Option (List ℕ)) → None ≡ Some w → ⊥
        none≢some w e = grind arith

        placed : (a : ℕ) (one : Kept) (at : List ℕ) (v : Option (List ℕ)) → slice_get slots.kept.items a ≡ Some one → made (st.slots a) at ≡ Some v → one.place < length h.steps
        placed a one at v e m = go (st.slots a) refl m
          where
            go : (slot : Slot) → st.slots a ≡ slot → made slot at ≡ Some v → one.place < length h.steps
            go Waiting q m = absurd (grind arith)
            go (Running n job) q m = absurd (grind arith)
            go (Held job outcome) q m =
                let r : IsResultAt h.steps one.place a outcome = (is.slots_are.kept a one e).held job outcome q in
                elim (slice_get_cases h.steps one.place).1 [
                  | inl found ↦ found.1
                  | inr past ↦ absurd (some≢none r.done (sym r.stands ∙ past.1))
                ]
              where
                some≢none : (d : Done) → Some (Finish d) ≡ None → ⊥
                some≢none d e = grind arith
            go Closed q m = absurd (grind arith)

    module _ (new : Slots) (queue : new.queue ≡ with_mark slots.queue i (mark_by done.outcome)) (ends : new.ends ≡ slots.ends) (hits : new.hits ≡ slots.hits) (verdicts : new.verdicts ≡ slots.verdicts)
        (kept_long : length new.kept.items ≡ length slots.kept.items) (kept_others : (j : ℕ) → j ≢ i → slice_get new.kept.items j ≡ slice_get slots.kept.items j)
        (kept_here : IsPlacedAt slots.kept.items new.kept.items i (length h.steps))
        (running : new.running ≡ slots.running - 1) where
      -- before batches settle
      pub mid-slots : AreSlotsOf (order_in h) (sizes_in h) mid (h.steps ++ Finish done ∷ []) new
      mid-slots = slot-changes (order_in h) (sizes_in h) st h.steps (Finish done) slots new i held st.attempts is.slots_are (record {
        inside = inside h txs named slots lasts capacity is done.ticket runs;
        unsettled = unsettled h txs named slots lasts capacity is done.ticket runs;
        others = λ j apart. refl;
        queue = queue;
        ends = ends;
        hits = hits;
        verdicts = verdicts;
        kept_long = kept_long;
        kept_others = kept_others;
        kept_here = λ one e.
            let k = kept_here one runs.kept e runs.stands in
            let old = is.slots_are.kept i runs.kept runs.stands in
            record {
              attempts = k.attempts ∙ old.attempts;
              running = λ n job w. absurd (held≢runs n job (sym (put-same st.slots i held) ∙ w));
              held = λ job outcome w.
                  let same = held-same (sym (put-same st.slots i held) ∙ w) in
                  record { done = done; stands = ap (slice_get (h.steps ++ Finish done ∷ [])) k.place_is ∙ get-last h.steps (Finish done); number = refl; outcome_is = same };
            };
        counted = rw (queue, running) (let c = some-run h txs named slots lasts capacity is done.ticket runs (mark_by done.outcome) in let so = is.slots_are.counted in let none = not-running done.outcome in omega (arith, c, so, none));
      })
        where
          held≢runs : (n : ℕ) (job : Task) → held ≡ Running n job → ⊥
          held≢runs n job e = grind arith

          outcome_or : Outcome → Slot → Outcome
          outcome_or d Waiting = d
          outcome_or d (Running n t) = d
          outcome_or d (Held t o) = o
          outcome_or d Closed = d

          held-same : {job : Task} {outcome : Outcome} → held ≡ Held job outcome → done.outcome ≡ outcome
          held-same e = ap (outcome_or done.outcome) e

          not-running : (outcome : Outcome) → one_if_running (mark_by outcome) ≡ 0
          not-running (Ok changes events) = refl
          not-running (Invalid reason) = refl

      pub mid-state : HaveState (h.steps ++ Finish done ∷ []) new
      mid-state = record { order = order_in h; sizes = sizes_in h; state = mid; open_ = mid-open; are = mid-slots }

      -- the place of the result
      placed-behind : length h.steps ≤ place_in new.kept.items i
      placed-behind = elim (slice_get_cases new.kept.items i).1 [
        | inl found ↦ let p = (kept_here found.0 runs.kept found.2 runs.stands).place_is in rw found.2 (omega (arith, p))
        | inr past ↦
            let out : length new.kept.items ≤ i = past.0 in
            let inner = inside h txs named slots lasts capacity is done.ticket runs in
            let long = is.slots_are.kept_long in
            absurd (omega (arith, out, inner, long, kept_long))
      ]

      -- what the layers show meanwhile
      mid-lasts : AreLastsOf (h.steps ++ Finish done ∷ []) new lasts
      mid-lasts = put-on h.steps (Finish done) slots new lasts i (mark_by done.outcome) is.lasts_are (record {
        inside = inside h txs named slots lasts capacity is done.ticket runs;
        queue = queue;
        others = kept_others;
        before = ap is_valid runs.mark;
        after = inr placed-behind;
        apart = not-undone h txs named slots lasts capacity is done.ticket runs;
      })

      pub mid-long : length lasts.undone ≡ length new.queue.marks
      mid-long = mid-lasts.idle.long

      -- and once they have
      pub accepted : (last : Slots) (undone : List Bool) (steps : List Step) (room : ℕ)
          → ((order : Order) (sizes : List ℕ) (x : State) → IsOpen x → AreSlotsOf order sizes x (h.steps ++ Finish done ∷ []) new → AreSlotsOf order sizes (settled order x) (h.steps ++ Finish done ∷ []) last)
          → last.kept ≡ new.kept → last.running ≡ new.running → length last.queue.marks ≡ length new.queue.marks → LeavesUndone new.queue.marks last.queue.marks lasts.undone undone
          → steps ≡ h.steps ++ Finish done ∷ [] → capacity ≤ room
          → IsScheduleOf (record { batches = h.batches; steps = steps }) txs named last (with_undone lasts undone) room
      accepted last undone steps room settles kept_last running_last marks_last leaves steps_are more =
          let state : state_of (with_step h (Finish done)) ≡ settled (order_in h) mid = state-with_step h (Finish done) ∙ next-is in
          let long : length (h.steps ++ Finish done ∷ []) ≡ length h.steps + 1 = length-append h.steps (Finish done ∷ []) in
          let s = running-some h txs named slots lasts capacity is done.ticket runs in
          let r = is.room in
          let f = is.few in
          subst (λ (all : List Step). IsScheduleOf (record { batches = h.batches; steps = all }) txs named last (with_undone lasts undone) room) (sym steps_are)
          (record {
            txs_are = is.txs_are;
            counted = is.counted;
            replay = replay-with_step h (Finish done) is.replay (task-so h txs named slots lasts capacity is done.ticket runs);
            long = is.long;
            edges = is.edges;
            earlier = is.earlier;
            names = is.names;
            slots_are = subst (λ (x : State). AreSlotsOf (order_in h) (sizes_in h) x (h.steps ++ Finish done ∷ []) last) (sym state) (settles (order_in h) (sizes_in h) mid mid-open mid-slots);
            lasts_are = settled-on (h.steps ++ Finish done ∷ []) new last undone lasts mid-lasts kept_last marks_last leaves;
            whole = is.whole;
            rising = subst (λ (x : State). DoPlacesRise x last.kept.items) (sym state)
                (settled-rise (order_in h) mid last.kept.items (subst (λ (k : _). DoPlacesRise mid k.items) (sym kept_last)
                (mid-rise new.kept.items kept_others (λ one e. (kept_here one runs.kept e runs.stands).place_is))));
            room = rw (long, running_last, running) (omega (arith, s, r, more));
            few = rw (long, running_last, running) (omega (arith, f));
          })
