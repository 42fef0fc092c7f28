-- What a schedule keeps goes on to be that of a state in which one slot changed.
use Rattle.std.proofs.Common.{◌≡◌, ◌≢◌, ◌<◌, ◌≤◌, ℕ, zero, suc, List, [], ◌∷◌, ◌++◌, length, Some, slice_get, refl, sym, subst, ◌∙◌, arith, ◌⊎◌, inl, inr, length-set}
use Rattle.saw_messages.specs.declared.outcome.Outcome.{Outcome}
use Rattle.saw_machine.specs.Machine.{Slot, State, put}
use Rattle.saw_machine.specs.Orders.{Order}
use Rattle.saw_machine.proofs.Puts.{put-other}
use Rattle.saw_ready.specs.Queues.{with_mark}
use Rattle.saw_schedule.specs.Inside.{AreSlotsOf, IsKeptAt, IsResultAt, running_in}
use Rattle.saw_schedule.specs.Shows.{mark_of}
use Rattle.saw_schedule.specs.declared.kept.Kept.{Kept}
use Rattle.saw_schedule.specs.declared.slots.Slots.{Slots}
use Rattle.saw_schedule.specs.declared.step.Step.{Step}
use Rattle.saw_schedule.proofs.Showing.{slot-shows}
use Rattle.saw_schedule.proofs.Verdicts.{verdicts-same}

pub get-behind : {A : Type 0} (xs ys : List A) (n : ℕ) (x : A) → slice_get xs n ≡ Some x → slice_get (xs ++ ys) n ≡ Some x
get-behind [] ys n x e = absurd (grind arith)
get-behind (y ∷ xs) ys zero x e = e
get-behind (y ∷ xs) ys (suc n) x e = get-behind xs ys n x e

-- the last of a list
pub get-last : {A : Type 0} (xs : List A) (x : A) → slice_get (xs ++ x ∷ []) (length xs) ≡ Some x
get-last [] x = refl
get-last (y ∷ xs) x = get-last xs x

pub result-behind : (steps : List Step) (step : Step) (place i : ℕ) (outcome : Outcome) → IsResultAt steps place i outcome → IsResultAt (steps ++ step ∷ []) place i outcome
result-behind steps step place i outcome r = record { done = r.done; stands = get-behind steps (step ∷ []) place _ r.stands; number = r.number; outcome_is = r.outcome_is }

-- the state with another slot and other counts of takes
abbrev pub changed : State → ℕ → Slot → (ℕ → ℕ) → State
changed st i slot attempts = record st { slots = put st.slots i slot; attempts = attempts }

pub record Changes (st : State) (steps : List Step) (step : Step) (slots new : Slots) (i : ℕ) (slot : Slot) (attempts : ℕ → ℕ) : Type 0 where
  pub inside : i < length slots.queue.marks
  pub unsettled : st.first ≤ i
  pub others : (j : ℕ) → j ≢ i → attempts j ≡ st.attempts j
  pub queue : new.queue ≡ with_mark slots.queue i (mark_of slot)
  pub ends : new.ends ≡ slots.ends
  pub hits : new.hits ≡ slots.hits
  pub verdicts : new.verdicts ≡ slots.verdicts
  pub kept_long : length new.kept.items ≡ length slots.kept.items
  pub kept_others : (j : ℕ) → j ≢ i → slice_get new.kept.items j ≡ slice_get slots.kept.items j
  pub kept_here : (one : Kept) → slice_get new.kept.items i ≡ Some one → IsKeptAt (changed st i slot attempts) (steps ++ step ∷ []) i one
  pub counted : running_in new.queue.marks ≤ new.running

same-or : (a b : ℕ) → (a ≡ b) ⊎ (a ≢ b)
same-or a b = grind arith

pub slot-changes : (order : Order) (sizes : List ℕ) (st : State) (steps : List Step) (step : Step) (slots new : Slots) (i : ℕ) (slot : Slot) (attempts : ℕ → ℕ)
    → AreSlotsOf order sizes st steps slots → Changes st steps step slots new i slot attempts → AreSlotsOf order sizes (changed st i slot attempts) (steps ++ step ∷ []) new
slot-changes order sizes st steps step slots new i slot attempts are c = record {
  shows = rw c.queue (slot-shows order st attempts slots.queue i slot c.inside are.shows);
  ends = rw c.ends are.ends;
  hits_long = rw (c.hits, marks-long) are.hits_long;
  idle = rw c.hits are.idle;
  kept_long = rw (c.kept_long, marks-long) are.kept_long;
  kept = λ j one e. elim (same-or j i) [
    | inl here ↦ subst (λ (k : ℕ). IsKeptAt next (steps ++ step ∷ []) k one) (sym here) (c.kept_here one (subst (λ (k : ℕ). slice_get new.kept.items k ≡ Some one) here e))
    | inr apart ↦ kept-at j one apart (are.kept j one (sym (c.kept_others j apart) ∙ e))
  ];
  verdicts = rw c.verdicts (verdicts-same st next 0 sizes st.results slots.verdicts.items refl refl (λ j less. put-other st.slots i slot j (λ same. let late = c.unsettled in absurd (omega (arith, late, less, same)))) are.verdicts);
  room = rw c.verdicts are.room;
  counted = c.counted;
  few = rw marks-long are.few;
}
  where
    next : State
    next = changed st i slot attempts

    marks-long : length new.queue.marks ≡ length slots.queue.marks
    marks-long = rw c.queue (length-set slots.queue.marks i (mark_of slot))

    kept-at : (j : ℕ) (one : Kept) → j ≢ i → IsKeptAt st steps j one → IsKeptAt (changed st i slot attempts) (steps ++ step ∷ []) j one
    kept-at j one apart k = record {
      attempts = k.attempts ∙ sym (c.others j apart);
      running = λ n task e. k.running n task (sym (put-other st.slots i slot j apart) ∙ e);
      held = λ task outcome e. result-behind steps step one.place j outcome (k.held task outcome (sym (put-other st.slots i slot j apart) ∙ e));
    }
