-- What desks have in common, and what stays of them.
use Rattle.std.specs.Prelude.{◌≡◌, ◌≤◌, ℕ, List, [], ◌∷◌, is_some}
use Rattle.std.specs.List.{AllByRecursion}
use Rattle.saw_faults.specs.Counts.{Rose}
use Rattle.saw_station.specs.DeskPlaces.{Place, faults_by, offered_by}
use Rattle.saw_station.specs.declared.fault.StationFault.{StationFault}
use Rattle.saw_station.specs.declared.fault.StationFault.TheVariants as stations
use Rattle.saw_station.specs.declared.offer.Offer.{Offer}
use Rattle.saw_crew.specs.declared.fault.CrewFault.{CrewFault}
use Rattle.saw_crew.specs.declared.fault.CrewFault.TheVariants.{PeerFailed, OutOfMemory}

abbrev pub crew_fault : StationFault → CrewFault
crew_fault stations.PeerFailed = PeerFailed
crew_fault stations.OutOfMemory = OutOfMemory

-- the offers of the first desk
abbrev pub offers_at : {R : Type 0} → List (Place R) → List Offer
offers_at [] = []
offers_at (desk ∷ desks) = desk.offers

-- all desks have the offers of the first
abbrev pub HaveSameOffers : {R : Type 0} → List (Place R) → Type 0
HaveSameOffers desks = AllByRecursion (λ desk. desk.offers ≡ offers_at desks) desks

module _ {R : Type 0} (faults : R → ℕ) (offered : R → List Offer) where
  -- a desk keeps its offers and its remote, which serves what it served; its count of faults does not fall
  pub record KeepsDesk (old new : Place R) : Type 0 where
    pub offers : new.offers ≡ old.offers
    pub own_offers : offered_by offered new.remote ≡ offered_by offered old.remote
    pub remote : is_some new.remote ≡ is_some old.remote
    pub later : faults_by faults old.remote ≤ faults_by faults new.remote

  -- each desk does
  abbrev pub KeepsDesks : List (Place R) → List (Place R) → Type 0
  KeepsDesks [] [] = Unit {0}
  KeepsDesks [] (desk ∷ desks) = ⊥
  KeepsDesks (desk ∷ desks) [] = ⊥
  KeepsDesks (old ∷ olds) (new ∷ news) = KeepsDesk old new × KeepsDesks olds news

module _ {R : Type 0} (faults : R → ℕ) where
  -- the count of the first desk's remote rose
  abbrev pub Failed : List (Place R) → List (Place R) → Type 0
  Failed [] news = ⊥
  Failed (old ∷ olds) [] = ⊥
  Failed (old ∷ olds) (new ∷ news) = Rose (faults_by faults old.remote) (faults_by faults new.remote)

-- what a call leaves of a desk, and that it failed by the processor only where that is counted
pub record Leaves {R : Type 0} (faults : R → ℕ) (offered : R → List Offer) (old new : Place R) (failed : Type 0) : Type 0 where
  pub keeps : KeepsDesk faults offered old new
  pub cause : failed → Rose (faults_by faults old.remote) (faults_by faults new.remote)
