-- Jobs that were finished or given back run no more.
use Rattle.std.proofs.Common.{◌≡◌, inl, inr, Bool, true, false, ◌<◌, ◌≤◌, ◌+◌, ◌-◌, ℕ, List, [], ◌∷◌, ◌++◌, length, take, drop, get_or, refl, sym, ap, subst, ◌∙◌, arith}
use Rattle.std.proofs.lemmas.List.{drop-map, drop_all, drop_more, take-append-drop, take_rest}
use Rattle.saw_context.specs.declared.job.Done.{Done}
use Rattle.saw_context.specs.declared.job.Job.{Job}
use Rattle.saw_context.specs.declared.job.Ticket.{Ticket}
use Rattle.saw_schedule.specs.Histories.{Finishes, GivesBack, History, RunsIn, state_of}
use Rattle.saw_schedule.specs.declared.ended.Finished.{Finished}
use Rattle.saw_schedule.specs.declared.ended.Finished.TheVariants as ends
use Rattle.saw_schedule.specs.declared.ended.Given.{Given}
use Rattle.saw_schedule.specs.declared.ended.Given.TheVariants as gifts
use Rattle.saw_tickets.specs.Seats.{ClaimsOwn}
use Rattle.saw_tickets.specs.declared.rule.View.{View}
use Rattle.saw_crew.specs.Rounds.{AreOfFirst, ClaimsOwnJobs, EndsWorker, FinishesAll, GivesAll, GivesQueue, NoneRuns, StoresAll, tickets_in, tickets_of}
use Rattle.saw_crew.proofs.Runnings.{finished-running, given-running}

abbrev NoneBegins : History → History → Type 0
NoneBegins old new = (ticket : Ticket) → RunsIn (state_of new) ticket → RunsIn (state_of old) ticket

finish-ends : (old new : History) (done : Done) (fin : Finished) → Finishes old new done fin → NoneBegins old new × (RunsIn (state_of new) done.ticket → ⊥)
finish-ends old new done ends.Accepted step = (
  (λ ticket (task, runs). (task, (finished-running old done ticket.index ticket.attempt task (rw step.0 at runs)).0)),
  (λ (task, runs). (finished-running old done done.ticket.index done.ticket.attempt task (rw step.0 at runs)).1 refl),
)
finish-ends old new done ends.Stale step = ((λ ticket runs. rw step.0 at runs), (λ runs. step.1 (rw step.0 at runs)))
finish-ends old new done (ends.Foreign difference) step = (
  (λ ticket (task, runs). (task, (finished-running old done ticket.index ticket.attempt task (rw step.0 at runs)).0)),
  (λ (task, runs). (finished-running old done done.ticket.index done.ticket.attempt task (rw step.0 at runs)).1 refl),
)

give-ends : (old new : History) (ticket : Ticket) (given : Given) → GivesBack old new ticket given → NoneBegins old new × (RunsIn (state_of new) ticket → ⊥)
give-ends old new ticket gifts.Back step = (
  (λ other (task, runs). (task, (given-running old ticket other.index other.attempt task (rw step.0 at runs)).0)),
  (λ (task, runs). (given-running old ticket ticket.index ticket.attempt task (rw step.0 at runs)).1 refl),
)
give-ends old new ticket gifts.Stale step = ((λ other runs. rw step.0 at runs), (λ runs. step.1 (rw step.0 at runs)))

finishes-ends : (old new : History) (done : List Done) → FinishesAll old new done → NoneBegins old new × NoneRuns new (tickets_in done)
finishes-ends old new [] is = ((λ ticket runs. rw is at runs), tt)
finishes-ends old new (one ∷ more) (mid, (fin, step), rest) =
    let a = finish-ends old mid one fin step in
    let b = finishes-ends mid new more rest in
    ((λ ticket runs. a.0 ticket (b.0 ticket runs)), ((λ runs. a.1 (b.0 one.ticket runs)), b.1))

gives-ends : (old new : History) (tickets : List Ticket) → GivesAll old new tickets → NoneBegins old new × NoneRuns new tickets
gives-ends old new [] is = ((λ ticket runs. rw is at runs), tt)
gives-ends old new (one ∷ more) (mid, (given, step), rest) =
    let a = give-ends old mid one given step in
    let b = gives-ends mid new more rest in
    ((λ ticket runs. a.0 ticket (b.0 ticket runs)), ((λ runs. a.1 (b.0 one runs)), b.1))

pub given-ended : (old new : History) (tickets : List Ticket) → GivesAll old new tickets → NoneRuns new tickets
given-ended old new tickets given = (gives-ends old new tickets given).1

none-begins : (old new : History) (tickets : List Ticket) → NoneBegins old new → NoneRuns old tickets → NoneRuns new tickets
none-begins old new [] begins none = tt
none-begins old new (ticket ∷ tickets) begins none = ((λ runs. none.0 (begins ticket runs)), none-begins old new tickets begins none.1)

none-both : (h : History) (xs ys : List Ticket) → NoneRuns h xs → NoneRuns h ys → NoneRuns h (xs ++ ys)
none-both h [] ys one two = two
none-both h (x ∷ xs) ys one two = (one.0, none-both h xs ys one.1 two)

pub stored-ended : (old new : History) (jobs : List Job) (done : List Done) → AreOfFirst done jobs → StoresAll old new jobs done → NoneRuns new (tickets_of jobs)
stored-ended old new jobs done first stores =
    let finished = (finishes-ends old stores.between done stores.finished).1 in
    let given = gives-ends stores.between new (drop (length done) (tickets_of jobs)) stores.given in
    subst (NoneRuns new) (take-append-drop (length done) (tickets_of jobs))
    (none-both new (take (length done) (tickets_of jobs)) (drop (length done) (tickets_of jobs))
    (subst (NoneRuns new) first (none-begins stores.between new (tickets_in done) given.0 finished)) given.1)

-- ---- loops

pub none-left : {A : Type 0} → (xs : List A) (n : ℕ) → n ≡ length xs → n ≡ 0 → xs ≡ []
none-left [] n is none = refl
none-left (x ∷ xs) n is none = absurd (omega (arith, is, none))

-- jobs were claimed of the own queue and given back
abbrev pub GivesSome : History → History → List View → List View → Type 0
GivesSome old new views views' = (jobs : List Job) × ClaimsOwnJobs views views' jobs × GivesAll old new (tickets_of jobs)

pub gives-none : (h : History) (views : List View) → GivesSome h h views views
gives-none h views = ([], refl, refl)

pub gives-one : (old mid new : History) (views mids views' : List View) (job : Job) → ClaimsOwn views mids job → ((given : Given) × GivesBack old mid job.ticket given)
    → GivesSome mid new mids views' → GivesSome old new views views'
gives-one old mid new views mids views' job claims given (jobs, claimed, gave) = (job ∷ jobs, (mids, claims, claimed), (mid, given, gave))

pub queue-given : (old new : History) (views views' : List View) → GivesSome old new views views' → GivesQueue old new views views'
queue-given old new views views' (jobs, claimed, gave) = record { jobs = jobs; claimed = claimed; given = gave; ended = given-ended old new (tickets_of jobs) gave }

pub gives-next : (old mid new : History) (jobs : List Job) (i : ℕ) (job : Job) → i < length jobs → job ≡ get_or jobs i job → ((given : Given) × GivesBack old mid job.ticket given)
    → GivesAll mid new (tickets_of (drop (i + 1) jobs)) → GivesAll old new (tickets_of (drop i jobs))
gives-next old mid new jobs i job inside is step rest =
    subst (λ (js : List Job). GivesAll old new (tickets_of js)) (sym (drop_more jobs i job inside ∙ ap (λ (one : Job). one ∷ drop (i + 1) jobs) (sym is))) (mid, step, rest)

pub gives-end : (h : History) (jobs : List Job) (i : ℕ) → length jobs ≤ i → GivesAll h h (tickets_of (drop i jobs))
gives-end h jobs i beyond = subst (λ (js : List Job). GivesAll h h (tickets_of js)) (sym (drop_all i jobs beyond)) refl

-- the results were stored, and what is behind them was given back
pub stores-all : (old mid new : History) (jobs : List Job) (done : List Done) (n : ℕ) → n ≡ length done → FinishesAll old mid done
    → GivesAll mid new (tickets_of (take (length jobs - n) (drop n jobs))) → StoresAll old new jobs done
stores-all old mid new jobs done n is finished given = record {
  between = mid;
  finished = finished;
  given = subst (GivesAll mid new)
      (ap (λ (js : List Job). tickets_of js) (take_rest jobs n)
      ∙ (sym (drop-map (λ (job : Job). job.ticket) n jobs) ∙ ap (λ (k : ℕ). drop k (tickets_of jobs)) is)) given;
}

-- what has ended is not begun by what is given back
pub still-ended : (old new : History) (views views' : List View) (tickets : List Ticket) → GivesQueue old new views views' → NoneRuns old tickets → NoneRuns new tickets
still-ended old new views views' tickets gives = none-begins old new tickets (gives-ends old new (tickets_of gives.jobs) gives.given).0

pub ends-worker : (kept : Bool) (old mid new : History) (views views' : List View) (jobs : List Job) (done : List Done) → (kept ≡ true → StoresAll old mid jobs done)
    → (kept ≡ false → GivesAll old mid (tickets_of jobs)) → GivesQueue mid new views views' → EndsWorker old new views views' jobs done
ends-worker true old mid new views views' jobs done stored given queue = record { between = mid; hand = inl (stored refl); queue = queue }
ends-worker false old mid new views views' jobs done stored given queue = record { between = mid; hand = inr (given refl); queue = queue }
