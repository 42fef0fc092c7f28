-- What the caller does once the workers were joined.
use Rattle.std.proofs.Common.{◌≡◌, ℕ, zero, suc, ◌+◌, ◌<◌, ◌⊎◌, inl, inr, List, [], ◌∷◌, ◌++◌, length, Some, refl, sym, ap, subst, ◌∙◌, arith, slice_get, length-append}
use Rattle.std.proofs.lemmas.Option.{slice_get_within}
use Rattle.saw_address.specs.Maps.{StateMap}
use Rattle.saw_messages.specs.TxShapes.{TxShape}
use Rattle.saw_context.specs.Outcome.{Processors}
use Rattle.saw_context.specs.declared.job.Ticket.{Ticket}
use Rattle.saw_machine.specs.Laws.{IsQuiet}
use Rattle.saw_schedule.specs.Histories.{GivesBack, History, IsReplay, RunsIn, start_of, state_of, txs_in}
use Rattle.saw_schedule.specs.declared.ended.Given.{Given}
use Rattle.saw_schedule.specs.declared.ended.Given.TheVariants as gifts
use Rattle.saw_schedule.specs.declared.step.Step.{Step}
use Rattle.saw_schedule.specs.declared.step.Step.TheVariants.{Take, Finish, GiveBack}
use Rattle.saw_schedule.proofs.Reached.{replay-with_step}
use Rattle.saw_crew.specs.Alone.{IsAlone}
use Rattle.saw_crew.specs.Stored.{AllSound, Gave, IsAsLent, IsOfBaseStep, IsSoundStep}
use Rattle.saw_crew.proofs.Runnings.{given-running, running-taken}
use Rattle.saw_crew.proofs.Stores.{all-more, stored-true}
use Rattle.saw_crew.proofs.Alone.{begin-alone}
use Rattle.saw_plan.specs.BatchShapes.{txs_of}
use Rattle.saw_plan.specs.declared.plan.Plan.{Plan}
use Rattle.saw_schedule.specs.Histories.{begun}

pub gave-none : (h : History) → Gave h h
gave-none h = record { plan = refl; sound = λ p s. s; base = λ m b. b; replay = λ r. r; longer = omega arith; steps = λ k less. refl; running = λ i n task e. e }

pub gave-both : (old mid new : History) → Gave old mid → Gave mid new → Gave old new
gave-both old mid new a b = let long = a.longer in let more = b.longer in record {
  plan = b.plan ∙ a.plan;
  sound = λ p s. b.sound p (a.sound p s);
  base = λ m s. b.base m (a.base m s);
  replay = λ r. b.replay (a.replay r);
  longer = omega (arith, long, more);
  steps = λ k less. b.steps k (omega (arith, long, less)) ∙ a.steps k less;
  running = λ i n task e. a.running i n task (b.running i n task e);
}

-- the first part of a longer list
get-front : (xs ys : List Step) (k : ℕ) → k < length xs → slice_get (xs ++ ys) k ≡ slice_get xs k
get-front [] ys k less = absurd (omega arith)
get-front (x ∷ xs) ys zero less = refl
get-front (x ∷ xs) ys (suc k) less = get-front xs ys k (omega arith)

pub gave-one : (old new : History) (ticket : Ticket) (given : Given) → GivesBack old new ticket given → Gave old new
gave-one old new ticket gifts.Back gives = rw gives.0 (record {
  plan = refl;
  sound = λ p s. all-more (IsSoundStep p) old.steps (GiveBack ticket) s tt;
  base = λ m s. all-more (IsOfBaseStep m) old.steps (GiveBack ticket) s tt;
  replay = λ r. replay-with_step old (GiveBack ticket) r gives.1;
  longer = let more = length-append old.steps (GiveBack ticket ∷ []) in omega (arith, more);
  steps = λ k less. get-front old.steps (GiveBack ticket ∷ []) k less;
  running = λ i n task e. (given-running old ticket i n task e).0;
})
gave-one old new ticket gifts.Stale gives = rw gives.0 (gave-none old)

pub gave-ended : (old new : History) (ticket : Ticket) (given : Given) → GivesBack old new ticket given → RunsIn (state_of new) ticket → ⊥
gave-ended old new ticket gifts.Back gives (task, runs) = (given-running old ticket ticket.index ticket.attempt task (rw gives.0 at runs)).1 refl
gave-ended old new ticket gifts.Stale gives runs = gives.1 (rw gives.0 at runs)

-- where each ticket that was taken has ended nothing runs
pub all-ended : (old new : History) → IsReplay old → Gave old new
    → ((k : ℕ) (ticket : Ticket) → k < length old.steps → slice_get old.steps k ≡ Some (Take ticket) → RunsIn (state_of new) ticket → ⊥)
    → IsQuiet (state_of new)
all-ended old new replay gave ended i n task e =
    let was = running-taken old i n task replay (gave.running i n task e) in
    ended was.0 (record { index = i; attempt = n }) (slice_get_within old.steps was.0 _ was.1) was.1 (task, e)

abbrev ticket_in : Step → Ticket → Ticket
ticket_in (Take ticket) d = ticket
ticket_in (Finish done) d = d
ticket_in (GiveBack ticket) d = d

pub take-ticket : (s t : Ticket) → Take s ≡ Take t → s ≡ t
take-ticket s t e = ap (λ (x : Step). ticket_in x s) e

less-or-same : (j k : ℕ) → j < k + 1 → (j < k) ⊎ (j ≡ k)
less-or-same j k less = grind arith

-- one more ticket has ended
pub ended-next : (old mid new : History) (k : ℕ) → Gave old mid → Gave mid new → k < length old.steps
    → ((j : ℕ) (t : Ticket) → j < k → slice_get old.steps j ≡ Some (Take t) → RunsIn (state_of mid) t → ⊥)
    → ((t : Ticket) → slice_get mid.steps k ≡ Some (Take t) → RunsIn (state_of new) t → ⊥)
    → (j : ℕ) (t : Ticket) → j < k + 1 → slice_get old.steps j ≡ Some (Take t) → RunsIn (state_of new) t → ⊥
ended-next old mid new k a b inside ended last j t less at (task, runs) = elim (less-or-same j k less) [
  | inl l ↦ ended j t l at (task, b.running t.index t.attempt task runs)
  | inr e ↦ last t (a.steps k inside ∙ (rw e at at)) (task, runs)
]

-- what the workers leave, once all is given back
pub left-alone : (processors : Processors) (m : StateMap) (batches : List (List TxShape)) (old new : History) → AllSound processors old.steps → IsAsLent m batches old → Gave old new
    → IsQuiet (state_of new) → IsAlone processors m batches new
left-alone processors m batches old new sound lent gave quiet = record {
  plan = ap txs_of gave.plan ∙ lent.plan;
  replay = gave.replay lent.replay;
  true_steps = stored-true processors m (txs_in new) (start_of new) new.steps (gave.sound processors sound) (gave.base m lent.base);
  quiet = quiet;
}

-- a new schedule
pub fresh-alone : (processors : Processors) (m : StateMap) (plan : Plan) (h : History) → h ≡ begun plan → IsAlone processors m (txs_of plan.batches) h
fresh-alone processors m plan h e = subst (IsAlone processors m (txs_of plan.batches)) (sym e) (begin-alone processors m (begun plan) refl)
