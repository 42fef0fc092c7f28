-- A transaction is taken.
use Rattle.std.proofs.Common.{◌≡◌, ◌≢◌, ◌<◌, ◌≤◌, ◌+◌, ◌==◌, ℕ, zero, suc, Bool, true, false, if◌then◌else◌, List, [], ◌∷◌, ◌++◌, length, get_or, Option, Some, None, slice_get, refl, sym, ap, subst, ◌∙◌, arith, ◌⊎◌, inl, inr, get_or-set_other, true≢false}
use Rattle.std.proofs.lemmas.Option.{slice_get-map, slice_get_cases}
use Rattle.std.specs.Arc.{arc_value}
use Rattle.std.specs.FinMap as finite
use Rattle.std.specs.Global.{Global}
use Rattle.std.specs.declared.sync.Arc.{Arc}
use Rattle.saw_messages.specs.TxShapes.{TxShape}
use Rattle.saw_messages.specs.declared.outcome.Outcome.{Outcome}
use Rattle.saw_messages.specs.declared.tx.Tx.{Tx}
use Rattle.saw_context.specs.Conversation.{are_covering}
use Rattle.saw_context.specs.Views.{layers_of}
use Rattle.saw_context.specs.declared.job.Job.{Job}
use Rattle.saw_context.specs.declared.view.View.{View}
use Rattle.saw_context.specs.declared.view.ViewEntry.{ViewEntry}
use Rattle.saw_machine.specs.Laws.{IsLawful, last_below}
use Rattle.saw_machine.specs.Machine as machine
use Rattle.saw_machine.specs.Machine.{Closed, Held, IsReady, Running, Slot, Slots as Machine, State, Task, View as Shown, Waiting, closed_in, is_closed, made, next, put, seen, task_of, view_of}
use Rattle.saw_machine.proofs.Lasts.{no-later-change, view-is-last}
use Rattle.saw_machine.proofs.Puts.{put-other, put-same}
use Rattle.saw_ready.specs.Marks.{is_valid, is_waiting}
use Rattle.saw_ready.specs.Queues.{MayTake, with_mark}
use Rattle.saw_ready.specs.Sets.{IsEmpty}
use Rattle.saw_ready.specs.declared.edges.Edges.{Edges}
use Rattle.saw_ready.specs.declared.slot_state.SlotState.{SlotState}
use Rattle.saw_ready.specs.declared.slot_state.SlotState.TheVariants as marks
use Rattle.saw_schedule.specs.Histories.{History, IsTake, MayHappen, move_of, order_in, state_of, txs_in, with_step}
use Rattle.saw_schedule.specs.Inside.{DoPlacesRise, IsScheduleOf}
use Rattle.saw_schedule.specs.Jobs.{IsJobAt}
use Rattle.saw_schedule.specs.LookedUp.{IsFirst}
use Rattle.saw_schedule.specs.Shows.{is_closed_mark}
use Rattle.saw_schedule.specs.declared.kept.Kept.{Kept}
use Rattle.saw_schedule.specs.declared.lasts.Lasts.{Lasts}
use Rattle.saw_schedule.specs.declared.slots.Slots.{Slots}
use Rattle.saw_schedule.specs.declared.step.Step.{Step}
use Rattle.saw_schedule.specs.declared.step.Step.TheVariants.{Take}
use Rattle.saw_schedule.proofs.Counting.{count-set}
use Rattle.saw_schedule.proofs.Firsts.{view-none}
use Rattle.saw_schedule.proofs.Meetings.{meetings}
use Rattle.saw_schedule.proofs.NamedFailures.{failed-is, marked-closed}
use Rattle.saw_schedule.proofs.Replays.{histories-are-lawful}
use Rattle.saw_schedule.proofs.ScheduleSteps.{one-step, txs-all}
use Rattle.saw_schedule.proofs.Showing.{taken-ready}
use Rattle.saw_schedule.proofs.SlotChanges.{changed}
use Rattle.saw_schedule.proofs.Undoing.{Puts, put-on}

waits-not-valid : (m : SlotState) → is_waiting m ≡ true → is_valid m ≡ false
waits-not-valid m e = grind arith

-- where nothing was changed from k on, the last change is before k
pub last-cut : (slots : Machine) (at : List ℕ) (k n : ℕ) → k ≤ n → ((j : ℕ) → k ≤ j → j < n → made (slots j) at ≡ None) → last_below slots n at ≡ last_below slots k at
last-cut slots at k zero l none = let e : k ≡ 0 = omega (arith, l) in rw e refl
last-cut slots at k (suc n) l none = go (cases k (suc n) l) (λ shorter. last-cut slots at k n shorter (λ j from under. none j from (omega (arith, under))))
  where
    cases : (a b : ℕ) → a ≤ b → (a ≡ b) ⊎ (a < b)
    cases a b l = grind (arith, l)

    go : (k ≡ suc n) ⊎ (k < suc n) → (k ≤ n → last_below slots n at ≡ last_below slots k at) → last_below slots (suc n) at ≡ last_below slots k at
    go (inl e) more = rw e refl
    go (inr less) more = rw (none n (omega (arith, less)) (omega arith)) (more (omega (arith, less)))

module _ (h : History) (txs : List (Arc Tx Global)) (named : Edges) (slots : Slots) (lasts : Lasts) (capacity : ℕ) (is : IsScheduleOf h txs named slots lasts capacity) (k : ℕ) (may : MayTake slots.queue k) where
  abbrev st : State
  st = state_of h

  kept : IsLawful (order_in h) st
  kept = histories-are-lawful h is.replay

  pub ready : IsReady (order_in h) st k
  ready = taken-ready (order_in h) st slots.queue k is.slots_are.shows kept may

  pub tx-there : (tx : Arc Tx Global) × (slice_get txs k ≡ Some tx)
  tx-there = elim (slice_get_cases txs k).1 [
    | inl found ↦ (found.0, found.2)
    | inr past ↦ let inner = may.inside in let long = txs-all h txs named slots lasts capacity is in let over : length txs ≤ k = past.0 in absurd (omega (arith, inner, long, over))
  ]

  pub tx-is : (tx : Arc Tx Global) → slice_get txs k ≡ Some tx → slice_get (txs_in h) k ≡ Some (arc_value tx)
  tx-is tx there = ap (λ (shapes : List TxShape). slice_get shapes k) (sym is.txs_are) ∙ (slice_get-map arc_value txs k ∙ rw there refl)

  pub kept-there : (one : Kept) × (slice_get slots.kept.items k ≡ Some one)
  kept-there = elim (slice_get_cases slots.kept.items k).1 [
    | inl found ↦ (found.0, found.2)
    | inr past ↦ let inner = may.inside in let long = is.slots_are.kept_long in let over : length slots.kept.items ≤ k = past.0 in absurd (omega (arith, inner, long, over))
  ]

  -- what the machine's view shows
  pub view-at : (tx : Arc Tx Global) → slice_get txs k ≡ Some tx → (at : List ℕ)
      → view_of (order_in h) st.slots k at ≡ (if are_covering (arc_value tx).header.inputs at then last_below st.slots (length slots.queue.marks) at else None)
  view-at tx there at =
      view-is-last (order_in h) st.slots k at (meetings (txs_in h)) kept.declared ∙ go (are_covering (arc_value tx).header.inputs at) refl
    where
      reads : (order_in h).reads k at ≡ are_covering (arc_value tx).header.inputs at
      reads = rw (tx-is tx there) refl

      none-later : (order_in h).reads k at ≡ true → (j : ℕ) → k ≤ j → j < length slots.queue.marks → made (st.slots j) at ≡ None
      none-later covers j from less = elim (cases k j from) [
        | inl here ↦ rw (← here, ready.waiting) refl
        | inr after ↦ no-later-change (order_in h) st k j at (meetings (txs_in h)) kept ready.unsettled ready.waiting covers after
      ]
        where
          cases : (a b : ℕ) → a ≤ b → (a ≡ b) ⊎ (a < b)
          cases a b l = grind (arith, l)

      go : (b : Bool) → are_covering (arc_value tx).header.inputs at ≡ b
          → (if (order_in h).reads k at then last_below st.slots k at else None) ≡ (if are_covering (arc_value tx).header.inputs at then last_below st.slots (length slots.queue.marks) at else None)
      go true e = let covers : (order_in h).reads k at ≡ true = reads ∙ e in let inner = may.inside in
          rw (covers, e) (sym (last-cut st.slots at k (length slots.queue.marks) (omega (arith, inner)) (none-later covers)))
      go false e = rw (reads ∙ e, e) refl

  -- what no other precedes reads nothing that is changed
  pub first-reads : IsFirst slots.queue.preds k → (tx : Arc Tx Global) → slice_get txs k ≡ Some tx → (at : List ℕ) → are_covering (arc_value tx).header.inputs at ≡ true
      → last_below st.slots (length slots.queue.marks) at ≡ None
  first-reads first tx there at covers = sym (view-at tx there at ∙ rw covers refl) ∙ view-none (order_in h) slots.queue.preds is.slots_are.shows.edges st.slots k first at

  module _ (mid : Slots) (queue : mid.queue ≡ with_mark slots.queue k marks.Running) (kept_mid : mid.kept ≡ slots.kept) (job : Job) (view : Arc View Global)
      (seen : Shown) (made_job : IsJobAt txs named mid seen k job view)
      (shown : (at : List ℕ) → seen at ≡ last_below st.slots (length slots.queue.marks) at) where
    abbrev tx : Arc Tx Global
    tx = tx-there.0

    there : slice_get txs k ≡ Some tx
    there = tx-there.1

    pub attempt-is : job.ticket.attempt ≡ st.attempts k
    attempt-is = made_job.attempt kept-there.0 (ap (λ (xs : _). slice_get xs.items k) kept_mid ∙ kept-there.1) ∙ (is.slots_are.kept k kept-there.0 kept-there.1).attempts

    view-is : (at : List ℕ) → finite.get (layers_of (arc_value job.view)) at ≡ (task_of (order_in h) st.slots k).view at
    view-is at = made_job.seen tx there at ∙ (ap (λ (x : Option ViewEntry). if are_covering (arc_value tx).header.inputs at then x else None) (shown at) ∙ sym (view-at tx there at))

    failed-so : job.dependency_failed ≡ (task_of (order_in h) st.slots k).failed
    failed-so = made_job.failed ∙ failed-is (order_in h) st.slots named (λ j. is_closed_mark (get_or mid.queue.marks j marks.Waiting)) (length txs) k
        (let inner = may.inside in let long = txs-all h txs named slots lasts capacity is in omega (arith, inner, long)) is.edges is.earlier is.names marked
      where
        marked : (j : ℕ) → j < k → is_closed_mark (get_or mid.queue.marks j marks.Waiting) ≡ is_closed (st.slots j)
        marked j less =
            let inner = may.inside in
            ap (λ (q : _). is_closed_mark (get_or q.marks j marks.Waiting)) queue
            ∙ (ap is_closed_mark (get_or-set_other slots.queue.marks k j marks.Running marks.Waiting (λ e. absurd (omega (arith, less, e)))
            ∙ is.slots_are.shows.marks j (omega (arith, less, inner))) ∙ marked-closed (st.slots j))

    may-happen : MayHappen (txs_in h) st (Take job.ticket)
    may-happen = (subst (λ (i : ℕ). IsReady (order_in h) st i) (sym made_job.number) ready, attempt-is ∙ ap st.attempts (sym made_job.number))

    -- the job is the machine's
    pub is-take : IsTake h (with_step h (Take job.ticket)) job
    is-take = record {
      step = refl;
      ready = may-happen.0;
      attempt = may-happen.1;
      tx = ap (slice_get (txs_in h)) made_job.number ∙ (tx-is tx there ∙ ap (λ (x : TxShape). Some x) (sym (made_job.tx tx there)));
      view = λ at. view-is at ∙ ap (λ (i : ℕ). (task_of (order_in h) st.slots i).view at) (sym made_job.number);
      failed = failed-so ∙ ap (λ (i : ℕ). (task_of (order_in h) st.slots i).failed) (sym made_job.number);
    }

    pub taken : (new : Slots) (steps : List Step) (room : ℕ)
        → new.queue ≡ mid.queue → new.ends ≡ slots.ends → new.hits ≡ slots.hits → new.verdicts ≡ slots.verdicts
        → length new.kept.items ≡ length slots.kept.items → ((j : ℕ) → j ≢ k → slice_get new.kept.items j ≡ slice_get slots.kept.items j)
        → ((one : Kept) → slice_get new.kept.items k ≡ Some one → one ≡ record { attempts = job.ticket.attempt + 1; view = Some view; failed = job.dependency_failed; place = 0 })
        → new.running ≡ slots.running + 1 → steps ≡ h.steps ++ Take job.ticket ∷ [] → length h.steps + (slots.running + 2) ≤ room → IsEmpty lasts.undone
        → IsScheduleOf (record { batches = h.batches; steps = steps }) txs named new lasts room
    taken new steps room queue_new ends hits verdicts kept_long kept_others kept_here running steps_are more none_undone =
        let f = is.few in
        subst (λ (all : List Step). IsScheduleOf (record { batches = h.batches; steps = all }) txs named new lasts room) (sym steps_are)
        (one-step h txs named slots lasts capacity is (Take job.ticket) new k slot attempts room may-happen next-is
        (record {
          inside = may.inside;
          unsettled = ready.unsettled;
          others = λ j apart. rw (not-same j apart) refl;
          queue = queue_new ∙ queue;
          ends = ends;
          hits = hits;
          verdicts = verdicts;
          kept_long = kept_long;
          kept_others = kept_others;
          kept_here = λ one e.
              let k_is = kept_here one e in
              record {
                attempts = ap (λ (x : Kept). x.attempts) k_is ∙ (rw (same-self k) (let a = attempt-is in omega (arith, a)));
                running = λ n task w.
                    let both = running-same (sym (put-same st.slots k slot) ∙ w) in (
                      record {
                        view = view;
                        is = ap (λ (x : Kept). x.view) k_is;
                        shown = λ at. ap (λ (v : View). finite.get (layers_of v) at) made_job.same ∙ (view-is at ∙ ap (λ (t : Task). t.view at) both.1);
                        failed = ap (λ (x : Kept). x.failed) k_is ∙ (failed-so ∙ ap (λ (t : Task). t.failed) both.1);
                      },
                      ap suc (sym both.0) ∙ (let a = attempt-is in omega (arith, a)) ∙ ap (λ (x : Kept). x.attempts) (sym k_is),
                    );
                held = λ task outcome w. absurd (runs≢holds task outcome (sym (put-same st.slots k slot) ∙ w));
              };
          counted = rw (queue_new ∙ queue, running) (let c = count-set slots.queue.marks k marks.Running may.inside in let so = is.slots_are.counted in omega (arith, c, so));
        })
        rise (rw running (omega (arith, more))) (rw running (omega (arith, f))) (put-on h.steps (Take job.ticket) slots new lasts k marks.Running is.lasts_are puts))
      where
        puts : Puts h.steps slots new lasts.undone k marks.Running
        puts = record {
          inside = may.inside;
          queue = queue_new ∙ queue;
          others = kept_others;
          before = waits-not-valid (get_or slots.queue.marks k marks.Waiting) may.waiting;
          after = inl refl;
          apart = λ in_it. absurd (true≢false (sym in_it ∙ none_undone k));
        }

        slot : Slot
        slot = Running (st.attempts k) (task_of (order_in h) st.slots k)

        attempts : ℕ → ℕ
        attempts j = if j == k then suc (st.attempts j) else st.attempts j

        next-is : next (order_in h) st (move_of (txs_in h) st (Take job.ticket)) ≡ changed st k slot attempts
        next-is = ap (λ (i : ℕ). next (order_in h) st (machine.Take i)) made_job.number

        same-self : (n : ℕ) → (n == n) ≡ true
        same-self n = grind arith

        not-same : (j : ℕ) → j ≢ k → (j == k) ≡ false
        not-same j apart = grind (arith, apart)

        number_or : ℕ → Slot → ℕ
        number_or d Waiting = d
        number_or d (Running n t) = n
        number_or d (Held t o) = d
        number_or d Closed = d

        task_or : Task → Slot → Task
        task_or d Waiting = d
        task_or d (Running n t) = t
        task_or d (Held t o) = d
        task_or d Closed = d

        running-same : {n : ℕ} {task : Task} → Running (st.attempts k) (task_of (order_in h) st.slots k) ≡ Running n task → (st.attempts k ≡ n) × (task_of (order_in h) st.slots k ≡ task)
        running-same e = (ap (number_or 0) e, ap (task_or (task_of (order_in h) st.slots k)) e)

        runs≢holds : (task : Task) (outcome : Outcome) → slot ≡ Held task outcome → ⊥
        runs≢holds task outcome e = grind arith

        rise : DoPlacesRise (changed st k slot attempts) new.kept.items
        rise a b one other at v w less made_a made_b is_one is_other =
            is.rising a b one other at v w less (sym (rw (put-other st.slots k slot a (apart a v made_a)) refl) ∙ made_a) (sym (rw (put-other st.slots k slot b (apart b w made_b)) refl) ∙ made_b)
            (sym (kept_others a (apart a v made_a)) ∙ is_one) (sym (kept_others b (apart b w made_b)) ∙ is_other)
          where
            apart : (j : ℕ) (x : Option (List ℕ)) → made (put st.slots k slot j) at ≡ Some x → j ≢ k
            apart j x has same = none≢some (sym (rw (same, put-same st.slots k slot) refl) ∙ has)
              where
                none≢some : None ≡ Some x → ⊥
                none≢some e = grind arith
