-- What is left of a desk by one call after another.
use Rattle.std.proofs.Common.{◌≡◌, ◌≤◌, ◌<◌, ℕ, suc, List, [], ◌∷◌, length, get_or, set, refl, sym, ◌∙◌, arith}
use Rattle.std.specs.List.{AllByRecursion}
use Rattle.saw_faults.specs.Counts.{Rose}
use Rattle.saw_station.specs.DeskPlaces.{Place, faults_by}
use Rattle.saw_station.specs.declared.offer.Offer.{Offer}
use Rattle.saw_crew.specs.Desks.{Failed, HaveSameOffers, KeepsDesk, KeepsDesks, Leaves, offers_at}

rose_later : (first before after : ℕ) → first ≤ before → Rose before after → Rose first after
rose_later first before after later rose = omega arith

module _ {R : Type 0} (faults : R → ℕ) (offered : R → List Offer) where
  pub keeps_same : (desk : Place R) → KeepsDesk faults offered desk desk
  keeps_same desk = record { offers = refl; own_offers = refl; remote = refl; later = omega arith }

  module _ (first before after : Place R) (kept : KeepsDesk faults offered first before) where
    pub keeps_trans : KeepsDesk faults offered before after → KeepsDesk faults offered first after
    keeps_trans keeps = record {
      offers = keeps.offers ∙ kept.offers;
      own_offers = keeps.own_offers ∙ kept.own_offers;
      remote = keeps.remote
          ∙ kept.remote;
      later = omega arith;
    }

    -- a call that ends what was begun
    pub leaves_after : (failed peer : Type 0) → Leaves faults offered before after peer → (failed → peer) → Leaves faults offered first after failed
    leaves_after failed peer leaves same = record {
      keeps = keeps_trans leaves.keeps;
      cause = λ f. rose_later (faults_by faults first.remote) (faults_by faults before.remote) (faults_by faults after.remote) kept.later
          (leaves.cause (same f));
    }

  -- an end that is no fault of the processor
  pub leaves_well : (old new : Place R) → KeepsDesk faults offered old new → (failed : Type 0) → (failed → ⊥) → Leaves faults offered old new failed
  leaves_well old new kept failed never = record { keeps = kept; cause = λ f. absurd (never f) }

  -- ---- the first of a list of desks

  pub keep_all : (desks : List (Place R)) → KeepsDesks faults offered desks desks
  keep_all [] = tt
  keep_all (desk ∷ desks) = (keeps_same desk, keep_all desks)

  -- each desk by its place is all of them
  pub keeps_places : (olds news : List (Place R)) → length news ≡ length olds → ((i : ℕ) (d : Place R) → i < length olds → KeepsDesk faults offered (get_or olds i d) (get_or news i d))
      → KeepsDesks faults offered olds news
  keeps_places [] [] long each = tt
  keeps_places [] (new ∷ news) long each = absurd (omega (arith, long))
  keeps_places (old ∷ olds) [] long each = absurd (omega (arith, long))
  keeps_places (old ∷ olds) (new ∷ news) long each = (each 0 old (omega arith), keeps_places olds news (omega (arith, long)) (λ i d less. each (suc i) d (omega (arith, less))))

  -- then the first goes on
  pub first_kept : (olds news : List (Place R)) (d new : Place R) → 0 < length olds → KeepsDesks faults offered olds news → KeepsDesk faults offered (get_or news 0 d) new
      → KeepsDesks faults offered olds (set news 0 new)
  first_kept [] news d new some kept one = absurd (omega arith)
  first_kept (old ∷ olds) [] d new some kept one = kept
  first_kept (old ∷ olds) (mid ∷ news) d new some kept one = (keeps_trans old mid new kept.0 one, kept.1)

  pub first_offers : (olds news : List (Place R)) (d : Place R) → 0 < length olds → KeepsDesks faults offered olds news → (get_or news 0 d).offers ≡ offers_at olds
  first_offers [] news d some kept = absurd (omega arith)
  first_offers (old ∷ olds) [] d some kept = absurd kept
  first_offers (old ∷ olds) (mid ∷ news) d some kept = kept.0.offers

  -- a count that rose behind an earlier call rose since before it
  pub first_failed : (olds news : List (Place R)) (d new : Place R) → 0 < length olds → KeepsDesks faults offered olds news
      → Rose (faults_by faults (get_or news 0 d).remote) (faults_by faults new.remote) → Failed faults olds (set news 0 new)
  first_failed [] news d new some kept rose = absurd (omega arith)
  first_failed (old ∷ olds) [] d new some kept rose = absurd kept
  first_failed (old ∷ olds) (mid ∷ news) d new some kept rose = rose_later (faults_by faults old.remote) (faults_by faults mid.remote) (faults_by faults new.remote) kept.0.later rose

-- ---- what stays of a list of desks by one call after another

module _ {R : Type 0} (faults : R → ℕ) (offered : R → List Offer) where
  abbrev Kept : List (Place R) → List (Place R) → Type 0
  Kept = KeepsDesks faults offered

  pub keeps_all_trans : (first before after : List (Place R)) → Kept first before → Kept before after → Kept first after
  keeps_all_trans [] [] [] one two = tt
  keeps_all_trans [] [] (desk ∷ desks) one two = absurd two
  keeps_all_trans [] (desk ∷ desks) after one two = absurd one
  keeps_all_trans (desk ∷ desks) [] after one two = absurd one
  keeps_all_trans (desk ∷ desks) (other ∷ others) [] one two = absurd two
  keeps_all_trans (desk ∷ desks) (other ∷ others) (last ∷ lasts) one two =
      (keeps_trans faults offered desk other last one.0 two.0, keeps_all_trans desks others lasts one.1 two.1)

  pub kept_some : (old new : List (Place R)) → Kept old new → 0 < length old → 0 < length new
  kept_some [] [] keeps some = some
  kept_some [] (new ∷ news) keeps some = absurd keeps
  kept_some (old ∷ olds) [] keeps some = absurd keeps
  kept_some (old ∷ olds) (new ∷ news) keeps some = omega arith

  pub kept_offers : (old new : List (Place R)) → Kept old new → offers_at new ≡ offers_at old
  kept_offers [] [] keeps = refl
  kept_offers [] (new ∷ news) keeps = absurd keeps
  kept_offers (old ∷ olds) [] keeps = absurd keeps
  kept_offers (old ∷ olds) (new ∷ news) keeps = keeps.0.offers

  all_alike : (one other : List Offer) → other ≡ one → (old new : List (Place R)) → Kept old new → AllByRecursion (λ (desk : Place R). desk.offers ≡ one) old
      → AllByRecursion (λ (desk : Place R). desk.offers ≡ other) new
  all_alike one other same [] [] keeps alike = tt
  all_alike one other same [] (new ∷ news) keeps alike = absurd keeps
  all_alike one other same (old ∷ olds) [] keeps alike = absurd keeps
  all_alike one other same (old ∷ olds) (new ∷ news) keeps alike = (keeps.0.offers ∙ alike.0 ∙ sym same, all_alike one other same olds news keeps.1 alike.1)

  pub kept_alike : (old new : List (Place R)) → Kept old new → HaveSameOffers old → HaveSameOffers new
  kept_alike old new keeps alike = all_alike (offers_at old) (offers_at new) (kept_offers old new keeps) old new keeps alike

  -- also from an earlier time on
  pub failed_since : (first before after : List (Place R)) → Kept first before → Failed faults before after → Failed faults first after
  failed_since [] [] after keeps failed = absurd failed
  failed_since [] (desk ∷ desks) after keeps failed = absurd keeps
  failed_since (desk ∷ desks) [] after keeps failed = absurd failed
  failed_since (desk ∷ desks) (other ∷ others) [] keeps failed = absurd failed
  failed_since (desk ∷ desks) (other ∷ others) (last ∷ lasts) keeps rose =
      rose_later (faults_by faults desk.remote) (faults_by faults other.remote) (faults_by faults last.remote) keeps.0.later rose
