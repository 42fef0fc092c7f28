-- The built-in processors are deterministic, and so is a remote that is said to be.
use Rattle.std.proofs.Common.{◌≡◌, ℕ, Bool, true, false, List, [], ◌∷◌, refl}
use Rattle.std.specs.Prelude.{is_some}
use Rattle.saw_context.proofs.Coming.{from_told}
use Rattle.saw_address.specs.Maps.{StateMap}
use Rattle.saw_context.specs.Outcome.{Processors}
use Rattle.saw_context.specs.Possible.{MayComeOfAll, all_told, are_told}
use Rattle.saw_context.specs.Serial.{serial}
use Rattle.saw_context.specs.declared.batch_result.BatchResult.{BatchResult}
use Rattle.saw_messages.specs.TxShapes.{TxShape}
use Rattle.saw_messages.specs.declared.talk.Action.{Action}
use Rattle.saw_messages.specs.declared.talk.Turn.{Turn}
use Rattle.saw_station.specs.Families.{family_of}
use Rattle.saw_station.specs.Serving.{is_offered, processors_at}
use Rattle.saw_station.specs.declared.offer.Offer.{Offer}

-- whoever serves it, if anyone does
module _ (next : TxShape → List Turn → Action) (offers : List Offer) (family version : List ℕ) where
  by_tests : (own offered : Bool) → is_some (family_of family version) ≡ own → is_offered offers family version ≡ offered
      → (processors_at next true offers).tells family version ≡ true
  by_tests true offered a b = rw a refl
  by_tests false true a b = rw (a, b) refl
  by_tests false false a b = rw (a, b) refl

-- with a deterministic remote, or none
pub all_families : (next : TxShape → List Turn → Action) (offers : List Offer) (family version : List ℕ)
    → (processors_at next true offers).tells family version ≡ true
all_families next offers family version = by_tests next offers family version _ _ refl refl

module _ (processors : Processors) (tells : (family version : List ℕ) → processors.tells family version ≡ true) where
  txs_told : (txs : List TxShape) → all_told processors txs ≡ true
  txs_told [] = refl
  txs_told (tx ∷ txs) = rw (tells tx.header.family_name tx.header.family_version) (txs_told txs)

  pub batches_told : (batches : List (List TxShape)) → are_told processors batches ≡ true
  batches_told [] = refl
  batches_told (txs ∷ batches) = rw (txs_told txs) (batches_told batches)

  -- so there is one way to run batches
  pub told_serial : (m : StateMap) (batches : List (List TxShape)) (results : List BatchResult) → MayComeOfAll processors m batches results
      → results ≡ serial processors m batches
  told_serial m batches results may = from_told processors [] m batches results (batches_told batches) may
