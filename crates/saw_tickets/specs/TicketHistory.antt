-- Ticket history: the rule of one queue, out of which each issued job comes once, in order, with its number.
use Rattle.std.specs.Prelude.{true, false, ◌≡◌, ◌≢◌, ◌⊎◌, ℕ, zero, suc, ◌+◌, List, [], ◌∷◌, ◌++◌, map, length, Some, slice_get, if◌then◌else◌, ◌==◌}
use mathlib.Core.Option.{some}
use lib.ListN.{get_elem?}
use Rattle.saw_context.specs.declared.job.Job.{Job}
use Rattle.saw_tickets.specs.declared.rule.Numbered.{Numbered}
use Rattle.saw_tickets.specs.declared.rule.View.{View}

abbrev pub numbered : ℕ → Job → Numbered
numbered place job = record { place = place; job = job }

-- what a pass knows of a queue that may have other passes
abbrev pub knows : List Job → List Numbered → View
knows issued claimed = record { issued = issued; claimed = claimed; shared = true }

-- what the only pass of a queue knows
abbrev pub alone : List Job → List Numbered → View
alone issued claimed = record { issued = issued; claimed = claimed; shared = false }

-- the jobs with their numbers, from this one on
abbrev pub numbered_from : ℕ → List Job → List Numbered
numbered_from k [] = []
numbered_from k (job ∷ jobs) = numbered k job ∷ numbered_from (k + 1) jobs

abbrev pub places : List Numbered → List ℕ
places entries = map (λ entry. entry.place) entries

-- how often p stands in the list
abbrev pub times : ℕ → List ℕ → ℕ
times p [] = 0
times p (x ∷ xs) = (if x == p then 1 else 0) + times p xs

-- f of each, added up
abbrev pub total : (View → ℕ) → List View → ℕ
total f [] = 0
total f (view ∷ views) = f view + total f views

-- once where p is below k, and else never
abbrev pub once_below : ℕ → ℕ → ℕ
once_below p zero = 0
once_below p (suc k) = once_below p k + (if k == p then 1 else 0)

-- each claimed job is the one that was issued under its number
abbrev pub AreIssued : List Job → List Numbered → Type 0
AreIssued gone [] = Unit {0}
AreIssued gone (entry ∷ entries) = (slice_get gone entry.place ≡ Some entry.job) × AreIssued gone entries

-- the pass 0, which is the seat's own, alone has issued
abbrev pub Fits : List Job → List Job → ℕ → View → Type 0
Fits gone issued port view = (port ≡ 0 → view.issued ≡ issued) × (port ≢ 0 → view.issued ≡ []) × AreIssued gone view.claimed

-- The rule of a queue that holds these items, beside what its passes know: some of the issued jobs are gone, and it holds
-- the others, in order, each with its number. Each number that is gone stands once among what was claimed, and no other. A
-- pass that is not shared is the only one.
abbrev pub IsRuled : List Numbered → List View → Type 0
IsRuled items views =
    (gone : List Job) × (left : List Job)
    × (items ≡ numbered_from (length gone) left)
    × ((p : ℕ) → total (λ view. times p (places view.claimed)) views ≡ once_below p (length gone))
    × ((port : ℕ) (view : View) → get_elem? views port ≡ some view
    → Fits gone (gone ++ left) port view × (view.shared ≡ false → views ≡ view ∷ []))

-- the rule allows this view beside an empty queue
abbrev pub MayBeEmpty : View → Type 0
MayBeEmpty view = (views : List View) × (port : ℕ) × IsRuled [] views × (get_elem? views port ≡ some view)

-- ---- what all passes know

-- the jobs that were issued to the queue, by its first pass
abbrev pub issued_to : List View → List Job
issued_to [] = []
issued_to (view ∷ views) = view.issued

abbrev pub IsOneOf : Numbered → List Numbered → Type 0
IsOneOf entry [] = ⊥
IsOneOf entry (other ∷ others) = (entry ≡ other) ⊎ IsOneOf entry others

-- the entry was claimed by one of the passes
abbrev pub IsClaimed : Numbered → List View → Type 0
IsClaimed entry [] = ⊥
IsClaimed entry (view ∷ views) = IsOneOf entry view.claimed ⊎ IsClaimed entry views
