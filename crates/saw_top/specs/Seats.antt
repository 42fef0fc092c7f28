-- External processors at their desks.
use Rattle.std.specs.Prelude.{◌≡◌, ◌⊎◌, ◌+◌, ℕ, Bool, true, List, Result, Ok, Err, All, drop, take}
use Rattle.std.specs.List.{AllByRecursion, filter_map}
use Rattle.saw_report.specs.declared.run_fault.RunFault.{RunFault}
use Rattle.saw_report.specs.declared.run_fault.RunFault.TheVariants.{Peer, Memory}
use Rattle.saw_station.specs.DeskPlaces.{Place}
use Rattle.saw_station.specs.declared.offer.Offer.{Offer}

-- the external processors of desks
abbrev pub remotes_at : {R : Type 0} → List (Place R) → List R
remotes_at desks = filter_map (λ desk. desk.remote) desks

-- all desks have these offers
abbrev pub HaveOffers : {R : Type 0} → List Offer → List (Place R) → Type 0
HaveOffers offers desks = AllByRecursion (λ desk. desk.offers ≡ offers) desks

-- ---- how far external processors have begun

-- at one it stopped: those before it have begun, and those behind it were not asked
pub record StopsAt {R : Type 0} (begun : R → Bool) (old new : List R) : Type 0 where
  pub place : ℕ
  pub before : All (λ remote. begun remote ≡ true) (take place new)
  pub behind : drop (place + 1) new ≡ drop (place + 1) old

-- all have begun, or it stopped at one and so much is as it was
abbrev pub HaveBegun : {R : Type 0} → (R → Bool) → List R → List R → Type 0 → Type 0
HaveBegun begun old new still = All (λ remote. begun remote ≡ true) new ⊎ (StopsAt begun old new × still)

-- an external processor failed, or memory was refused
abbrev pub FailsEarly : Result ℕ RunFault → Type 0
FailsEarly (Ok status) = ⊥
FailsEarly (Err fault) = (fault ≡ Peer) ⊎ (fault ≡ Memory)
