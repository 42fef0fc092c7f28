-- Batches of the built-in families come to the same whatever else is offered.
use Rattle.std.proofs.Common.{◌≡◌, ◌<◌, ◌≤◌, ℕ, Bool, true, List, [], ◌∷◌, map, Option, refl, ap, ap₂, ◌∙◌, arith}
use Rattle.std.proofs.Math.Path.{fun_ext}
use Rattle.std.specs.List.{AllByRecursion, range_with_len}
use Rattle.std.specs.Prelude.{is_some}
use Rattle.saw_address.specs.Maps.{StateMap}
use Rattle.saw_address.specs.Texts.{is_hex_text}
use Rattle.saw_context.specs.Outcome.{Processors, conversed, map_after, outcome_by, outcome_of, refusal}
use Rattle.saw_context.specs.Serial.{batch_result, behind, failed_with, goes_on, left_by, names_one, serial, serial_from}
use Rattle.saw_context.specs.declared.batch_result.BatchResult.{BatchResult}
use Rattle.saw_generate.proofs.Places.{all_places}
use Rattle.saw_generate.proofs.Reading.{is_for, is_nonce}
use Rattle.saw_generate.proofs.Shapes.{IsFor}
use Rattle.saw_generate.specs.Operations.{first_of, second_of}
use Rattle.saw_generate.specs.Signed.{batch_at, nonce_at, transaction}
use Rattle.saw_generate.specs.Streams.{batches_at}
use Rattle.saw_generate.specs.declared.wish.GenerateWish.{GenerateWish}
use Rattle.saw_intkey.specs.Actions as intkey
use Rattle.saw_intkey.specs.declared.payload.Payload.{Payload}
use Rattle.saw_messages.specs.TxShapes.{TxShape, shape_in}
use Rattle.saw_messages.specs.declared.outcome.Outcome.{Outcome}
use Rattle.saw_messages.specs.declared.outcome.Outcome.TheVariants as outcomes
use Rattle.saw_messages.specs.declared.outcome.Change.{Change}
use Rattle.saw_messages.specs.declared.outcome.Reason.{Reason}
use Rattle.saw_messages.specs.declared.talk.Action.{Action}
use Rattle.saw_messages.specs.declared.talk.Turn.{Turn}
use Rattle.saw_plan.specs.BatchShapes.{txs_of}
use Rattle.saw_publish.specs.Candidates.{Signing}
use Rattle.saw_receipts.specs.Shapes.{batch_in}
use Rattle.saw_station.specs.Families.{family_of}
use Rattle.saw_station.specs.Serving.{processors_at}
use Rattle.saw_station.specs.declared.offer.Offer.{Offer}

abbrev pub IsBuiltIn : TxShape → Type 0
IsBuiltIn tx = is_some (family_of tx.header.family_name tx.header.family_version) ≡ true

-- ---- two runs of them

module _ (next other : TxShape → List Turn → Action) (tells also : Bool) (offers more : List Offer) where
  abbrev one : Processors
  one = processors_at next tells offers

  abbrev two : Processors
  two = processors_at other also more

  next_same : (tx : TxShape) (turns : List Turn) → IsBuiltIn tx → one.next tx turns ≡ two.next tx turns
  next_same tx turns own = rw own refl

  refused_same : (tx : TxShape) → IsBuiltIn tx → refusal one tx ≡ refusal two tx
  refused_same tx own = rw own refl

  outcome_same : (tx : TxShape) (m : StateMap) (failed : Bool) → IsBuiltIn tx → outcome_of one tx m failed ≡ outcome_of two tx m failed
  outcome_same tx m failed own =
      ap₂ (λ (why : Option Reason) (talk : List Turn → Action). outcome_by why failed (conversed talk tx.header m)) (refused_same tx own)
      (fun_ext (λ turns. next_same tx turns own))

  goes_same : (outcome : Outcome) (first second : List Change → BatchResult) → ((changes : List Change) → first changes ≡ second changes)
      → goes_on outcome first ≡ goes_on outcome second
  goes_same (outcomes.Ok changes events) first second same =
      ap (behind (outcomes.Ok changes events)) (same changes)
  goes_same (outcomes.Invalid reason) first second same = refl

  batch_same : (failed : List TxShape) (m : StateMap) (txs : List TxShape) → AllByRecursion IsBuiltIn txs
      → batch_result one failed m txs ≡ batch_result two failed m txs
  batch_same failed m [] own = refl
  batch_same failed m (tx ∷ txs) own =
      ap (λ outcome. goes_on outcome (λ changes. batch_result one failed (map_after m changes) txs)) (outcome_same tx m (names_one tx failed) own.0)
      ∙ goes_same (outcome_of two tx m (names_one tx failed)) _ _ (λ changes. batch_same failed (map_after m changes) txs own.1)

  from_same : (failed : List TxShape) (m : StateMap) (batches : List (List TxShape)) → AllByRecursion (AllByRecursion IsBuiltIn) batches
      → serial_from one failed m batches ≡ serial_from two failed m batches
  from_same failed m [] own = refl
  from_same failed m (txs ∷ batches) own =
      ap (λ result. result ∷ serial_from one (failed_with failed txs result) (left_by m result) batches) (batch_same failed m txs own.0)
      ∙ ap (λ (results : List BatchResult). batch_result two failed m txs ∷ results)
      (from_same (failed_with failed txs (batch_result two failed m txs)) (left_by m (batch_result two failed m txs)) batches own.1)

  pub serial_same : (m : StateMap) (batches : List (List TxShape)) → AllByRecursion (AllByRecursion IsBuiltIn) batches
      → serial one m batches ≡ serial two m batches
  serial_same m batches own = from_same [] m batches own

-- ---- generated batches are

is_intkey : (payload : Payload) (tx : TxShape) → IsFor payload tx → IsBuiltIn tx
is_intkey payload tx meant =
    ap (λ family. is_some (family_of family tx.header.family_version)) meant.family ∙ ap (λ version. is_some (family_of intkey.family_name version)) meant.version

module _ (signing : Signing) (wish : GenerateWish) (key : is_hex_text 66 signing.key ≡ true) (blocks : wish.blocks ≤ 1000) (batches : wish.batches ≤ 5000) (b : ℕ)
    (low : b < wish.blocks) where
  abbrev AreBuiltIn : ℕ → Type 0
  AreBuiltIn k = AllByRecursion IsBuiltIn (map shape_in (batch_at signing wish b k).transactions)

  are_intkey : (k : ℕ) → k < wish.batches → AreBuiltIn k
  are_intkey k small = (first, (second, tt))
    where
      first : IsBuiltIn (shape_in (transaction signing (nonce_at b k 0) (first_of wish b k)))
      first = is_intkey (first_of wish b k) (shape_in (transaction signing (nonce_at b k 0) (first_of wish b k)))
          (is_for signing key (nonce_at b k 0) (is_nonce b k 0 (omega (arith, low, blocks)) (omega (arith, small, batches)) (omega arith)) (first_of wish b k))

      second : IsBuiltIn (shape_in (transaction signing (nonce_at b k 1) (second_of wish b k)))
      second = is_intkey (second_of wish b k) (shape_in (transaction signing (nonce_at b k 1) (second_of wish b k)))
          (is_for signing key (nonce_at b k 1) (is_nonce b k 1 (omega (arith, low, blocks)) (omega (arith, small, batches)) (omega arith)) (second_of wish b k))

  listed : (places : List ℕ) → AllByRecursion AreBuiltIn places → AllByRecursion (AllByRecursion IsBuiltIn) (txs_of (map batch_in (map (batch_at signing wish b) places)))
  listed [] all = tt
  listed (k ∷ places) all = (all.0, listed places all.1)

  pub generated_built_in : AllByRecursion (AllByRecursion IsBuiltIn) (txs_of (map batch_in (batches_at signing wish b)))
  generated_built_in = listed (range_with_len 0 wish.batches) (all_places AreBuiltIn wish.batches are_intkey)
