-- Desks with equal offers, whose processors are deterministic.
use Rattle.std.proofs.Common.{◌≡◌, ◌⊎◌, ◌<◌, ◌≤◌, inl, inr, ℕ, true, List, [], ◌∷◌, ◌++◌, length, length-append, Option, Some, None, ap}
use Rattle.std.proofs.Common.{arith}
use Rattle.std.specs.Prelude.{is_some}
use Rattle.saw_crew.proofs.Telling.{all_families}
use Rattle.saw_crew.specs.Desks.{Failed, KeepsDesks}
use Rattle.saw_faults.specs.Counts.{Rose}
use Rattle.saw_journal.specs.Judgement.{Rules}
use Rattle.saw_journal.specs.Ledger.{Ledger, Says}
use Rattle.saw_messages.specs.TxShapes.{TxShape}
use Rattle.saw_messages.specs.declared.talk.Action.{Action}
use Rattle.saw_messages.specs.declared.talk.Turn.{Turn}
use Rattle.saw_receipts.specs.declared.block.BlockRecord.{BlockRecord}
use Rattle.saw_receipts.specs.declared.verdict.Verdict.{Verdict}
use Rattle.saw_receipts.specs.declared.verdict.Verdict.TheVariants.{Committed, Stored, Refused}
use Rattle.saw_receipts.specs.Verdicts.{is_accepted}
use Rattle.saw_station.specs.DeskPlaces.{Place, faults_by}
use Rattle.saw_station.specs.Serving.{processors_at}
use Rattle.saw_station.specs.declared.offer.Offer.{Offer}
use Rattle.saw_top.specs.Outside.{SomeRose, counts_of}
use Rattle.saw_top.specs.World.{TellsAll}

-- ---- what stays of desks

module _ {R : Type 0} (faults : R → ℕ) (offered : R → List Offer) where
  counted : (before after : Option R) (one other : List Offer) (olds news : List (Place R)) → is_some after ≡ is_some before
      → Rose (faults_by faults before) (faults_by faults after) ⊎ SomeRose (counts_of faults olds) (counts_of faults news)
      → SomeRose (counts_of faults (record { remote = before; offers = one } ∷ olds)) (counts_of faults (record { remote = after; offers = other } ∷ news))
  counted None None one other olds news same (inl rose) = absurd (omega (arith, rose))
  counted None None one other olds news same (inr failed) = failed
  counted None (Some remote) one other olds news same failed = absurd cc
  counted (Some remote) None one other olds news same failed = absurd cc
  counted (Some remote) (Some later) one other olds news same failed = failed

  -- a failed remote is counted
  pub failed_rose : (old new : List (Place R)) → KeepsDesks faults offered old new → Failed faults old new
      → SomeRose (counts_of faults old) (counts_of faults new)
  failed_rose [] news keeps failed = absurd failed
  failed_rose (old ∷ olds) [] keeps failed = absurd failed
  failed_rose (old ∷ olds) (new ∷ news) keeps rose = counted old.remote new.remote old.offers new.offers olds news keeps.0.remote (inl rose)

-- ---- a count that rose since a later time

module _ {R : Type 0} (faults : R → ℕ) (offered : R → List Offer) where
  since_one : (before after : Option R) (one other : List Offer) (olds mids : List (Place R)) (news : List ℕ) → is_some after ≡ is_some before
      → faults_by faults before ≤ faults_by faults after
      → ((news : List ℕ) → SomeRose (counts_of faults mids) news → SomeRose (counts_of faults olds) news)
      → SomeRose (counts_of faults (record { remote = after; offers = other } ∷ mids)) news
      → SomeRose (counts_of faults (record { remote = before; offers = one } ∷ olds)) news
  since_one None None one other olds mids news same later others rose = others news rose
  since_one None (Some remote) one other olds mids news same later others rose = absurd cc
  since_one (Some remote) None one other olds mids news same later others rose = absurd cc
  since_one (Some remote) (Some next) one other olds mids [] same later others rose = absurd rose
  since_one (Some remote) (Some next) one other olds mids (new ∷ news) same later others (inl rose) = inl (omega (arith, later, rose))
  since_one (Some remote) (Some next) one other olds mids (new ∷ news) same later others (inr rose) = inr (others news rose)

  -- it rose since an earlier time too
  pub rose_since : (olds mids : List (Place R)) (news : List ℕ) → KeepsDesks faults offered olds mids → SomeRose (counts_of faults mids) news
      → SomeRose (counts_of faults olds) news
  rose_since [] [] news keeps rose = rose
  rose_since [] (mid ∷ mids) news keeps rose = absurd keeps
  rose_since (old ∷ olds) [] news keeps rose = absurd keeps
  rose_since (old ∷ olds) (mid ∷ mids) news keeps rose =
      since_one old.remote mid.remote old.offers mid.offers olds mids news keeps.0.remote keeps.0.later (λ ns. rose_since olds mids ns keeps.1) rose

-- ---- all is told

-- with a deterministic remote, or none
pub tells_all : (next : TxShape → List Turn → Action) (offers : List Offer) → TellsAll (processors_at next true offers)
tells_all next offers = all_families next offers

grown_some : (blocks : List BlockRecord) (block : BlockRecord) (more : List BlockRecord) → more ≡ blocks ++ block ∷ [] → 0 < length more
grown_some blocks block more is = omega (arith, ap (λ (l : List BlockRecord). length l) is, length-append blocks (block ∷ []))

-- an accepted block is there, whatever way its batches were run
pub accepted_some : (rules : Rules) (old : Ledger) (content : List ℕ) (verdict : Verdict) (new : Ledger) → Says rules old content verdict new
    → is_accepted verdict ≡ true → 0 < length new.blocks
accepted_some rules old content Committed new says is = grown_some old.blocks says.kept.block new.blocks (ap (λ (l : Ledger). l.blocks) says.grown_by)
accepted_some rules old content Stored new says is = grown_some old.blocks says.kept.block new.blocks (ap (λ (l : Ledger). l.blocks) says.grown_by)
accepted_some rules old content (Refused fault) new says is = absurd cc
