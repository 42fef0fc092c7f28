-- A job is given back, or its result is refused: its transaction waits again.
use Rattle.std.proofs.Common.{◌≡◌, ◌≢◌, ◌<◌, ◌≤◌, ◌+◌, ◌-◌, ℕ, List, [], ◌∷◌, ◌++◌, length, get_or, set, Option, Some, None, slice_get, refl, sym, ap, subst, ◌∙◌, arith, inl, inr}
use Rattle.std.specs.Global.{Global}
use Rattle.std.specs.declared.sync.Arc.{Arc}
use Rattle.saw_messages.specs.declared.outcome.Outcome.{Outcome}
use Rattle.saw_messages.specs.declared.tx.Tx.{Tx}
use Rattle.saw_context.specs.declared.job.Ticket.{Ticket}
use Rattle.saw_machine.specs.Machine.{Held, Running, State, Task, Waiting, made, next, put}
use Rattle.saw_machine.proofs.Puts.{put-other, put-same}
use Rattle.saw_ready.specs.Hits.{IsIn}
use Rattle.saw_ready.specs.Marks.{is_valid}
use Rattle.saw_ready.specs.Queues.{with_mark}
use Rattle.saw_ready.specs.declared.edges.Edges.{Edges}
use Rattle.saw_ready.specs.declared.slot_state.SlotState.TheVariants as marks
use Rattle.saw_schedule.specs.Histories.{History, MayHappen, RunsIn, move_of, order_in, sizes_in, state_of, txs_in}
use Rattle.saw_schedule.specs.Inside.{DoPlacesRise, IsRunning, IsScheduleOf, one_if_running, running_in}
use Rattle.saw_schedule.specs.declared.kept.Kept.{Kept}
use Rattle.saw_schedule.specs.declared.lasts.Lasts.{Lasts}
use Rattle.saw_schedule.specs.declared.slots.Slots.{Slots}
use Rattle.saw_schedule.specs.declared.step.Step.{Step}
use Rattle.saw_schedule.specs.declared.step.Step.TheVariants.{GiveBack}
use Rattle.saw_schedule.proofs.Counting.{count-set}
use Rattle.saw_schedule.proofs.Replays.{histories-are-lawful}
use Rattle.saw_schedule.proofs.ScheduleSteps.{inside-of, one-step, runs-iff}
use Rattle.saw_schedule.proofs.SlotChanges.{changed}
use Rattle.saw_schedule.proofs.Undoing.{Puts, put-on}

-- where a slot waits again, what is held is what was
pub rise-waiting : (st : State) (i : ℕ) (attempts : ℕ → ℕ) (kept new : List Kept) → ((j : ℕ) → j ≢ i → slice_get new j ≡ slice_get kept j) → DoPlacesRise st kept
    → DoPlacesRise (changed st i Waiting attempts) new
rise-waiting st i attempts kept new others rise a b one other at v w less made_a made_b is_one is_other =
    rise a b one other at v w less (sym (same-made a (apart a v made_a)) ∙ made_a) (sym (same-made b (apart b w made_b)) ∙ made_b) (sym (others a (apart a v made_a)) ∙ is_one) (sym (others b (apart b w made_b)) ∙ is_other)
  where
    apart : (j : ℕ) (x : Option (List ℕ)) → made (put st.slots i Waiting j) at ≡ Some x → j ≢ i
    apart j x has same = none≢some (sym (rw (same, put-same st.slots i Waiting) refl) ∙ has)
      where
        none≢some : None ≡ Some x → ⊥
        none≢some e = grind arith

    same-made : (j : ℕ) → j ≢ i → made (put st.slots i Waiting j) at ≡ made (st.slots j) at
    same-made j other_one = rw (put-other st.slots i Waiting j other_one) refl

module _ (h : History) (txs : List (Arc Tx Global)) (named : Edges) (slots : Slots) (lasts : Lasts) (capacity : ℕ) (is : IsScheduleOf h txs named slots lasts capacity)
    (ticket : Ticket) (runs : IsRunning slots ticket) where
  abbrev i : ℕ
  i = ticket.index

  pub inside : i < length slots.queue.marks
  inside = inside-of (order_in h) (sizes_in h) (state_of h) h.steps slots is.slots_are ticket runs

  pub task-so : RunsIn (state_of h) ticket
  task-so = (runs-iff h txs named slots lasts capacity is ticket).0 runs

  pub unsettled : (state_of h).first ≤ i
  unsettled = (histories-are-lawful h is.replay).running i ticket.attempt task-so.0 task-so.1

  -- what runs was not undone
  pub not-undone : IsIn lasts.undone i → ⊥
  not-undone in_it = elim (is.lasts_are.idle.are i in_it) [
    | inl waits ↦ runs≢waits (sym runs.mark ∙ waits)
    | inr closed ↦ runs≢closed (sym runs.mark ∙ closed)
  ]
    where
      runs≢waits : marks.Running ≡ marks.Waiting → ⊥
      runs≢waits e = grind arith

      runs≢closed : marks.Running ≡ marks.Closed → ⊥
      runs≢closed e = grind arith

  -- at least this one runs
  pub some-run : (m : _) → running_in (set slots.queue.marks i m) + 1 ≡ running_in slots.queue.marks + one_if_running m
  some-run m = let c = count-set slots.queue.marks i m inside in let one : one_if_running (get_or slots.queue.marks i marks.Waiting) ≡ 1 = ap one_if_running runs.mark in omega (arith, c, one)

  pub running-some : 1 ≤ slots.running
  running-some = let c = some-run marks.Waiting in let so = is.slots_are.counted in omega (arith, c, so)

  pub has-room : length h.steps < capacity
  has-room = let r = is.room in let s = running-some in omega (arith, r, s)

  -- the slot waits again
  pub waits-again : (step : Step) (new : Slots) (steps : List Step) (room : ℕ) → MayHappen (txs_in h) (state_of h) step
      → next (order_in h) (state_of h) (move_of (txs_in h) (state_of h) step) ≡ changed (state_of h) i Waiting (state_of h).attempts
      → new.queue ≡ with_mark slots.queue i marks.Waiting → new.ends ≡ slots.ends → new.hits ≡ slots.hits → new.verdicts ≡ slots.verdicts
      → length new.kept.items ≡ length slots.kept.items → ((j : ℕ) → j ≢ i → slice_get new.kept.items j ≡ slice_get slots.kept.items j)
      → ((one : Kept) → slice_get new.kept.items i ≡ Some one → one.attempts ≡ (state_of h).attempts i)
      → new.running ≡ slots.running - 1 → steps ≡ h.steps ++ step ∷ [] → capacity ≤ room
      → IsScheduleOf (record { batches = h.batches; steps = steps }) txs named new lasts room
  waits-again step new steps room may next_is queue ends hits verdicts kept_long kept_others kept_here running steps_are more =
      let s = running-some in
      let r = is.room in
      let f = is.few in
      subst (λ (all : List Step). IsScheduleOf (record { batches = h.batches; steps = all }) txs named new lasts room) (sym steps_are)
      (one-step h txs named slots lasts capacity is step new i Waiting (state_of h).attempts room may next_is
      (record {
        inside = inside;
        unsettled = unsettled;
        others = λ j apart. refl;
        queue = queue;
        ends = ends;
        hits = hits;
        verdicts = verdicts;
        kept_long = kept_long;
        kept_others = kept_others;
        kept_here = λ one e. record {
          attempts = kept_here one e;
          running = λ n task w. absurd (waits≢runs n task (sym (put-same (state_of h).slots i Waiting) ∙ w));
          held = λ task outcome w. absurd (waits≢holds task outcome (sym (put-same (state_of h).slots i Waiting) ∙ w));
        };
        counted = rw (queue, running) (let c = some-run marks.Waiting in let so = is.slots_are.counted in omega (arith, c, so));
      })
      (rise-waiting (state_of h) i (state_of h).attempts slots.kept.items new.kept.items kept_others is.rising)
      (rw running (omega (arith, s, r, more))) (rw running (omega (arith, f))) (put-on h.steps step slots new lasts i marks.Waiting is.lasts_are puts))
    where
      puts : Puts h.steps slots new lasts.undone i marks.Waiting
      puts = record { inside = inside; queue = queue; others = kept_others; before = ap is_valid runs.mark; after = inl refl; apart = not-undone }

      waits≢runs : (n : ℕ) (task : Task) → Waiting ≡ Running n task → ⊥
      waits≢runs n task e = grind arith

      waits≢holds : (task : Task) (outcome : Outcome) → Waiting ≡ Held task outcome → ⊥
      waits≢holds task outcome e = grind arith

  -- a job is given back
  pub given-back : (new : Slots) (steps : List Step) (room : ℕ)
      → new.queue ≡ with_mark slots.queue i marks.Waiting → new.ends ≡ slots.ends → new.hits ≡ slots.hits → new.verdicts ≡ slots.verdicts → new.kept ≡ slots.kept
      → new.running ≡ slots.running - 1 → steps ≡ h.steps ++ GiveBack ticket ∷ [] → capacity ≤ room
      → IsScheduleOf (record { batches = h.batches; steps = steps }) txs named new lasts room
  given-back new steps room queue ends hits verdicts kept running steps_are more =
      waits-again (GiveBack ticket) new steps room task-so refl queue ends hits verdicts (ap (λ (k : _). length k.items) kept) (λ j apart. ap (λ (k : _). slice_get k.items j) kept)
      (λ one e. (is.slots_are.kept i one (sym (ap (λ (k : _). slice_get k.items i) kept) ∙ e)).attempts) running steps_are more
