-- Results are those of the first jobs in hand.
use Rattle.std.proofs.Common.{◌≡◌, ◌<◌, ◌≤◌, ℕ, zero, suc, List, [], ◌∷◌, ◌++◌, Some, None, Result, Ok, Err, IfOk, Bool, true, false, length, length-append, take, get_or, refl, sym, ap, subst, ◌∙◌, arith, slice_get}
use Rattle.std.proofs.lemmas.List.{length-map, map-append, take-append-le}
use Rattle.std.specs.List.{AllByRecursion}
use Rattle.saw_context.specs.Outcome.{Processors}
use Rattle.saw_context.specs.SoundResults.{IsSoundDone}
use Rattle.saw_context.specs.declared.job.Done.{Done}
use Rattle.saw_context.specs.declared.job.Job.{Job}
use Rattle.saw_context.specs.declared.job.Ticket.{Ticket}
use Rattle.saw_tickets.specs.declared.rule.View.{View}
use Rattle.saw_crew.specs.Rounds.{AddsResult, AreOfFirst, ClaimsMore, IsFurther, tickets_in, tickets_of}
use Rattle.saw_crew.proofs.Stores.{all-more}

take-within : {A : Type 0} (n : ℕ) (xs : List A) → length (take n xs) ≡ n → n ≤ length xs
take-within zero xs e = omega arith
take-within (suc n) [] e = absurd (omega (arith, e))
take-within (suc n) (x ∷ xs) e = let le = take-within n xs (omega (arith, e)) in omega (arith, le)

take-next : {A : Type 0} (n : ℕ) (xs : List A) (x : A) → slice_get xs n ≡ Some x → take (suc n) xs ≡ take n xs ++ x ∷ []
take-next n [] x at = absurd (let p : None ≡ Some x = at in cc)
take-next zero (y ∷ xs) x at = (let p : Some y ≡ Some x = at in let e : y ≡ x = cc in ap (λ z. z ∷ []) e)
take-next (suc n) (y ∷ xs) x at = ap (λ zs. y ∷ zs) (take-next n xs x at)

pub first-none : (jobs : List Job) → AreOfFirst [] jobs
first-none jobs = refl

pub first-within : (done : List Done) (jobs : List Job) → AreOfFirst done jobs → length done ≤ length (tickets_of jobs)
first-within done jobs first =
    take-within (length done) (tickets_of jobs) (sym (ap length first) ∙ length-map done (λ (one : Done). one.ticket))

-- jobs that come behind change nothing
pub first-further : (done : List Done) (jobs jobs' : List Job) → AreOfFirst done jobs → IsFurther jobs jobs' → AreOfFirst done jobs'
first-further done jobs jobs' first (more, is) =
    first ∙ sym (ap (λ js. take (length done) (tickets_of js)) is
    ∙ (ap (λ ts. take (length done) ts) (map-append (λ (job : Job). job.ticket) jobs more)
    ∙ take-append-le (length done) (tickets_of jobs) (tickets_of more) (first-within done jobs first)))

module _ (processors : Processors) (jobs : List Job) (old new : List Done) (adds : AddsResult processors jobs old new) where
  pub first-adds : AreOfFirst old jobs → AreOfFirst new jobs
  first-adds first =
      ap (λ ds. tickets_in ds) adds.more ∙ (map-append (λ (one : Done). one.ticket) old (adds.done ∷ [])
      ∙ (ap (λ ts. ts ++ adds.done.ticket ∷ []) first ∙ (sym (take-next (length old) (tickets_of jobs) adds.done.ticket adds.ticket)
      ∙ ap (λ n. take n (tickets_of jobs)) (let e = ap length adds.more ∙ length-append old (adds.done ∷ []) in let p : suc (length old) ≡ length new = omega (arith, e) in p))))

  pub sound-adds : AllByRecursion (IsSoundDone processors) old → AllByRecursion (IsSoundDone processors) new
  sound-adds sound = rw adds.more (all-more (IsSoundDone processors) old adds.done sound adds.sound)

-- ---- the next job

pub found-one : {E : Type 0} → (views views' : List View) (old new : List Job) (n : ℕ) (result : Result Bool E) → n ≤ length old → IfOk result (ClaimsMore views views' old new)
    → IfOk result (λ found. found ≡ true → n < length new)
found-one views views' old new n (Ok true) within (job, claims, is) = λ yes. let e = ap length is ∙ length-append old (job ∷ []) in omega (arith, within, e)
found-one views views' old new n (Ok false) within claims = λ yes. absurd cc
found-one views views' old new n (Err fault) within claims = tt

pub ticket-at : (jobs : List Job) (i : ℕ) (job : Job) (ticket : Ticket) → i < length jobs → job ≡ get_or jobs i job → ticket ≡ job.ticket → slice_get (tickets_of jobs) i ≡ Some ticket
ticket-at [] i job ticket inside is e = absurd (omega (arith, inside))
ticket-at (first ∷ jobs) zero job ticket inside is e = ap Some (sym (e ∙ ap (λ (one : Job). one.ticket) is))
ticket-at (first ∷ jobs) (suc i) job ticket inside is e = ticket-at jobs i job ticket (omega (arith, inside)) is e

-- the next job was found and has a result
pub round-goes-on : (processors : Processors) (jobs jobs' jobs'' : List Job) (done done' done'' : List Done) → AllByRecursion (IsSoundDone processors) done → AreOfFirst done jobs → done' ≡ done
    → IsFurther jobs jobs' → AddsResult processors jobs' done' done'' → jobs'' ≡ jobs' → AllByRecursion (IsSoundDone processors) done'' × AreOfFirst done'' jobs''
round-goes-on processors jobs jobs' jobs'' done done' done'' sound first same further adds jobs_same =
    let first' : AreOfFirst done' jobs' = subst (λ (ds : List Done). AreOfFirst ds jobs') (sym same) (first-further done jobs jobs' first further) in
    let sound' : AllByRecursion (IsSoundDone processors) done' = subst (AllByRecursion (IsSoundDone processors)) (sym same) sound in
    (sound-adds processors jobs' done' done'' adds sound', subst (AreOfFirst done'') (sym jobs_same) (first-adds processors jobs' done' done'' adds first'))
