-- Jobs that are taken and put in hand or issued.
use Rattle.std.proofs.Common.{◌≡◌, ◌<◌, ◌≤◌, ◌⊎◌, inl, inr, ℕ, List, [], ◌∷◌, ◌++◌, refl, sym, ap, ap₂, subst, ◌∙◌, arith, append_assoc, append-nil}
use Rattle.std.proofs.lemmas.List.{map-append}
use Rattle.saw_context.specs.declared.job.Job.{Job}
use Rattle.saw_schedule.specs.Histories.{History, IsTake}
use Rattle.saw_schedule.specs.declared.step.Step.{Step}
use Rattle.saw_schedule.specs.declared.step.Step.TheVariants.{Take}
use Rattle.saw_station.specs.declared.offer.Offer.{Offer}
use Rattle.saw_tickets.specs.Seats.{ClaimsJob, FindsNone, IssuesJob, issued_by}
use Rattle.saw_tickets.specs.declared.rule.View.{View}
use Rattle.saw_crew.specs.Rounds.{ClaimsOne, IssuesJobs, NoneIsReady, TakesJobs, TakesMore, TakesSome, takes_of}
use Rattle.saw_crew.specs.Stored.{Stored}

pub same-stored : (old new : Stored) → new.history ≡ old.history → new.offers ≡ old.offers → new ≡ old
same-stored old new history offers = ap₂ (λ (h : History) (all : List Offer). record { history = h; offers = all }) history offers

takes-none : (s : Stored) → TakesJobs s s []
takes-none s = record { offers = refl; plan = refl; steps = sym (append-nil s.history.steps) }

takes-one : (old mid new : Stored) (jobs : List Job) (job : Job) → TakesJobs old mid jobs → IsTake mid.history new.history job → new.offers ≡ mid.offers
    → TakesJobs old new (jobs ++ job ∷ [])
takes-one old mid new jobs job taken take offers = record {
  offers = offers ∙ taken.offers;
  plan = ap (λ (h : History). h.batches) take.step ∙ taken.plan;
  steps = ap (λ (h : History). h.steps) take.step ∙ (ap (λ (steps : List Step). steps ++ Take job.ticket ∷ []) taken.steps
      ∙ (append_assoc old.history.steps (takes_of jobs) (Take job.ticket ∷ [])
      ∙ ap (λ (steps : List Step). old.history.steps ++ steps) (sym (map-append (λ (job : Job). Take job.ticket) jobs (job ∷ [])))));
}

issues-none : (own : View) (others : List View) → IssuesJobs (own ∷ others) (own ∷ others) []
issues-none own others = ap (λ (jobs : List Job). record own { issued = jobs } ∷ others) (sym (append-nil own.issued))

issues-one : (views mid views' : List View) (issued : List Job) (job : Job) → IssuesJobs views mid issued → IssuesJob mid views' job → IssuesJobs views views' (issued ++ job ∷ [])
issues-one [] mid views' issued job so_far one = absurd so_far
issues-one (own ∷ others) mid views' issued job so_far one =
    (rw so_far at one) ∙ ap (λ (jobs : List Job). record own { issued = jobs } ∷ others) (append_assoc own.issued issued (job ∷ []))

-- ---- a loop that takes

-- what was taken so far; none was handed back before the queue was full
pub record Taking (old new : Stored) (views views' : List View) (capacity : ℕ) (jobs jobs' : List Job) : Type 0 where
  pub issued : List Job
  pub back : List Job
  pub hand : jobs' ≡ jobs ++ back
  pub taken : TakesJobs old new (issued ++ back)
  pub issues : IssuesJobs views views' issued
  pub full : (back ≡ []) ⊎ (capacity ≤ issued_by views')

pub taking-none : (s : Stored) (own : View) (others : List View) (capacity : ℕ) (jobs : List Job) → Taking s s (own ∷ others) (own ∷ others) capacity jobs jobs
taking-none s own others capacity jobs = record {
  issued = [];
  back = [];
  hand = sym (append-nil jobs);
  taken = takes-none s;
  issues = issues-none own others;
  full = inl refl;
}

module _ (old mid new : Stored) (views mids views' : List View) (capacity : ℕ) (jobs jobs' : List Job) (so_far : Taking old mid views mids capacity jobs jobs') where
  none-back : issued_by mids < capacity → so_far.back ≡ []
  none-back room = elim so_far.full [
    | inl none ↦ none
    | inr full ↦ absurd (omega (arith, room, full))
  ]

  module _ (job : Job) (take : IsTake mid.history new.history job) (offers : new.offers ≡ mid.offers) where
    -- a job was taken and issued
    pub taking-issued : IssuesJob mids views' job → issued_by mids < capacity → Taking old new views views' capacity jobs jobs'
    taking-issued issues room = let none = none-back room in record {
      issued = so_far.issued ++ job ∷ [];
      back = [];
      hand = so_far.hand ∙ ap (λ (js : List Job). jobs ++ js) none;
      taken = subst (TakesJobs old new)
          (ap (λ (js : List Job). (so_far.issued ++ js) ++ job ∷ []) none ∙ (ap (λ (js : List Job). js ++ job ∷ []) (append-nil so_far.issued) ∙ sym (append-nil (so_far.issued ++ job ∷ []))))
          (takes-one old mid new (so_far.issued ++ so_far.back) job so_far.taken take offers);
      issues = issues-one views mids views' so_far.issued job so_far.issues issues;
      full = inl refl;
    }

    -- a job was taken and handed back
    pub taking-back : views' ≡ mids → capacity ≤ issued_by mids → Taking old new views views' capacity jobs (jobs' ++ job ∷ [])
    taking-back same full = record {
      issued = so_far.issued;
      back = so_far.back ++ job ∷ [];
      hand = ap (λ (js : List Job). js ++ job ∷ []) so_far.hand ∙ append_assoc jobs so_far.back (job ∷ []);
      taken = subst (TakesJobs old new) (append_assoc so_far.issued so_far.back (job ∷ []))
          (takes-one old mid new (so_far.issued ++ so_far.back) job so_far.taken take offers);
      issues = rw same so_far.issues;
      full = inr (rw same full);
    }

  pub taking-ends : new ≡ mid → views' ≡ mids → TakesMore old new views views' jobs jobs'
  taking-ends same views_same = record {
    issued = so_far.issued;
    back = so_far.back;
    hand = so_far.hand;
    taken = rw same so_far.taken;
    issues = rw views_same so_far.issues;
  }

-- ---- a first job, and more

pub takes-first : (old mid new : Stored) (views views' : List View) (first : Job) (jobs jobs' : List Job) → jobs ≡ first ∷ [] → IsTake old.history mid.history first → mid.offers ≡ old.offers
    → TakesMore mid new views views' jobs jobs' → TakesSome old new views views' jobs'
takes-first old mid new views views' first jobs jobs' is take offers more =
    subst (TakesSome old new views views') (sym (more.hand ∙ ap (λ (js : List Job). js ++ more.back) is)) (
      more.issued,
      record {
        offers = more.taken.offers ∙ offers;
        plan = more.taken.plan ∙ ap (λ (h : History). h.batches) take.step;
        steps = more.taken.steps ∙ (ap (λ (h : History). h.steps ++ takes_of (more.issued ++ more.back)) take.step
            ∙ append_assoc old.history.steps (Take first.ticket ∷ []) (takes_of (more.issued ++ more.back)));
      },
      more.issues,
    )

pub some-in-hand : (jobs back jobs' : List Job) (first : Job) → jobs ≡ first ∷ [] → jobs' ≡ jobs ++ back → jobs' ≡ [] → ⊥
some-in-hand jobs back jobs' first is hand none = absurd (let e : first ∷ back ≡ [] = sym (hand ∙ ap (λ (js : List Job). js ++ back) is) ∙ none in cc)

-- ---- nothing was taken

module _ (old new : Stored) (views mids views' : List View) (jobs : List Job) (none : jobs ≡ []) (took : TakesSome old new views mids jobs) (ready : jobs ≡ [] → NoneIsReady old) where
  took-none : (new ≡ old) × (mids ≡ views)
  took-none = subst (TakesSome old new views mids) none took

  pub claims-one : (jobs' : List Job) (job : Job) → ClaimsJob mids views' job → jobs' ≡ jobs ++ job ∷ [] → ClaimsOne old new views views' jobs'
  claims-one jobs' job claims is =
      subst (ClaimsOne old new views views') (sym (is ∙ ap (λ (js : List Job). js ++ job ∷ []) none))
      (took-none.0, ready none, subst (λ (vs : List View). ClaimsJob vs views' job) took-none.1 claims)

  pub claims-none : FindsNone mids views' → ClaimsOne old new views views' []
  claims-none finds = (took-none.0, ready none, subst (λ (vs : List View). FindsNone vs views') took-none.1 finds)
