-- What a desk has.
use Rattle.std.specs.Prelude.{◌≡◌, ℕ, Bool, false, true, List, [], Option, Some, None}
use Rattle.std.specs.List.{AllByRecursion}
use Rattle.saw_station.specs.declared.offer.Offer.{Offer}

-- a remote processor or none, and the offers that all remotes have in common
pub record Place (R : Type 0) : Type 0 where
  pub remote : Option R
  pub offers : List Offer

-- where there is no remote nothing is offered, and a remote has begun
abbrev pub IsOpen : {R : Type 0} → (R → Bool) → Option R → List Offer → Type 0
IsOpen begun None offers = offers ≡ []
IsOpen begun (Some remote) offers = begun remote ≡ true

-- the built-in processors alone: no remote and no offers
abbrev pub IsLone : {R : Type 0} → Place R → Type 0
IsLone desk = (desk.remote ≡ None) × (desk.offers ≡ [])

abbrev pub AreLone : {R : Type 0} → List (Place R) → Type 0
AreLone desks = AllByRecursion IsLone desks

-- the count of the remote's faults
abbrev pub faults_by : {R : Type 0} → (R → ℕ) → Option R → ℕ
faults_by faults None = 0
faults_by faults (Some remote) = faults remote

-- whether the remote has a conversation open
abbrev pub talking_by : {R : Type 0} → (R → Bool) → Option R → Bool
talking_by talking None = false
talking_by talking (Some remote) = talking remote

-- what the remote serves
abbrev pub offered_by : {R : Type 0} → (R → List Offer) → Option R → List Offer
offered_by offered None = []
offered_by offered (Some remote) = offered remote
