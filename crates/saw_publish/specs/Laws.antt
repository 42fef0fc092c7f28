-- What is true of candidates.
use Rattle.std.specs.Prelude.{◌≡◌, ◌≢◌, ◌<◌, ◌+◌, ◌^◌, ℕ, Bool, true, List, [], map, Option, None, Result, Ok, Err, IfSome, IsErrOf}
use Rattle.std.specs.List.{AllByRecursion}
use Rattle.saw_address.specs.Maps.{StateMap}
use Rattle.saw_address.specs.Texts.{is_hex_text}
use Rattle.saw_checks.specs.StructureFaults.{structure_fault}
use Rattle.saw_context.specs.Outcome.{Processors}
use Rattle.saw_context.specs.Serial.{left_after, serial}
use Rattle.saw_crew.specs.Desks.{Failed}
use Rattle.saw_merkle.specs.States.{States}
use Rattle.saw_messages.specs.Blocks.{block, block_header, block_header_pieces}
use Rattle.saw_messages.specs.ReadBack.{IsBatch}
use Rattle.saw_messages.specs.declared.batch.Batch.{Batch}
use Rattle.saw_node.specs.Hashes.{IsHash}
use Rattle.saw_node.specs.Trees.{root_of_map}
use Rattle.saw_plan.specs.BatchShapes.{txs_of}
use Rattle.saw_plan.specs.Sorting.{dropped_by}
use Rattle.saw_plan.specs.StaticRules.{Ids, causes}
use Rattle.saw_receipts.specs.Running.{Runs}
use Rattle.saw_receipts.specs.Shapes.{batch_in}
use Rattle.saw_receipts.specs.Telling.{tell_batches}
use Rattle.saw_receipts.specs.declared.block.Parent.{Parent}
use Rattle.saw_rules.specs.Policies.{Policy}
use Rattle.saw_schedule.specs.BatchResults.{first_failure}
use Rattle.saw_station.specs.DeskPlaces.{Place}
use Rattle.saw_wire.specs.Writing.{spelled}
use Rattle.saw_publish.specs.Building.{Answers, Builds, map_before}
use Rattle.saw_publish.specs.Candidates.{Signing, block_of, content_of, header_of}
use Rattle.saw_publish.specs.Drafts.{Draft, draft_of}
use Rattle.saw_publish.specs.declared.candidate.Candidate.{Candidate}
use Rattle.saw_publish.specs.declared.fault.PublishFault.{PublishFault}
use Rattle.saw_publish.specs.declared.fault.PublishFault.TheVariants.{PeerFailed}

-- the bytes of the header of a draft's block
abbrev pub header_bytes : (List ℕ → List ℕ) → Signing → Option Parent → Draft → List ℕ
header_bytes hash signing parent draft =
    spelled (block_header_pieces (header_of signing.key parent draft.applied (root_of_map hash draft.left)))

-- A draft whose block may be signed: who signs has a key and signatures of the right form, and is vouched for; and the
-- number behind the parent's fits.
pub record IsSignable (hash : List ℕ → List ℕ) (accepts : List ℕ → List ℕ → List ℕ → Bool) (signing : Signing) (parent : Option Parent)
    (draft : Draft) : Type 0 where
  pub hashes : (bytes : List ℕ) → IsHash (hash bytes)
  pub key : is_hex_text 66 signing.key ≡ true
  pub form : is_hex_text 128 (signing.signature (header_bytes hash signing parent draft)) ≡ true
  pub signed : accepts signing.key (header_bytes hash signing parent draft) (signing.signature (header_bytes hash signing parent draft)) ≡ true
  pub number : IfSome parent (λ parent. parent.number + 1 < 2 ^ 64)

-- a block before is named by the id of an accepted block: 128 hex digits
abbrev pub HasIdBefore : Option Parent → Type 0
HasIdBefore parent = IfSome parent (λ parent. is_hex_text 128 parent.id ≡ true)

-- The block of a draft is read back from its bytes, and its structure has no fault.
abbrev pub CandidateIsGood : Type 0
CandidateIsGood =
    (hash : List ℕ → List ℕ) (accepts : List ℕ → List ℕ → List ℕ → Bool) (policy : Policy) (signing : Signing)
    (parent : Option Parent) (runs : Runs) (before : StateMap) (there : Ids) (batches : List Batch)
    → AllByRecursion IsBatch batches → HasIdBefore parent
    → IsSignable hash accepts signing parent (draft_of accepts policy signing.key runs before there batches)
    → (let draft = draft_of accepts policy signing.key runs before there batches in
    (block (content_of hash signing parent draft) ≡ Ok (block_of hash signing parent draft))
    × (block_header (header_bytes hash signing parent draft)
    ≡ Ok (header_of signing.key parent draft.applied (root_of_map hash draft.left)))
    × (structure_fault accepts (content_of hash signing parent draft) ≡ None))

-- The applied batches by themselves: the static rules drop none, none fails, and they leave the same map.
abbrev pub AppliedApplyAgain : Type 0
AppliedApplyAgain =
    (accepts : List ℕ → List ℕ → List ℕ → Bool) (policy : Policy) (signer : List ℕ) (processors : Processors)
    (before : StateMap) (there : Ids) (batches : List Batch)
    → (let draft = draft_of accepts policy signer (λ m others. serial processors m others) before there batches in
    let shapes = map batch_in draft.applied in
    (dropped_by 0 (causes there shapes) ≡ [])
    × (first_failure 0 (serial processors before (txs_of shapes)) ≡ None)
    × (left_after before (serial processors before (txs_of shapes)) ≡ draft.left))

-- Of batches that go to deterministic processors, what is built is the candidate of running them one after another.
abbrev pub ToldIsBuiltSerially : Type 0
ToldIsBuiltSerially =
    (hash : List ℕ → List ℕ) (policy : Policy) (signing : Signing) (states : States) (parent : Option Parent) (processors : Processors)
    (accepts : List ℕ → List ℕ → List ℕ → Bool) (there : Ids) (batches : List Batch) (result : Result Candidate PublishFault)
    → tell_batches processors batches ≡ true → Builds hash policy signing states parent processors accepts there batches result
    → (let before = map_before states parent in
    Answers hash policy signing states parent before
    (draft_of accepts policy signing.key (λ m others. serial processors m others) before there batches) result)

module _ {R : Type 0} (faults : R → ℕ) where
  -- Where batches go to deterministic processors and no count of a processor rose, a call with the clauses of `build`
  -- gives the answer with the draft of running them one after another, or memory was refused.
  abbrev pub ToldIsBuiltOrStarves : Type 0
  ToldIsBuiltOrStarves =
      (hash : List ℕ → List ℕ) (policy : Policy) (signing : Signing) (states : States) (parent : Option Parent) (processors : Processors)
      (accepts : List ℕ → List ℕ → List ℕ → Bool) (there : Ids) (batches : List Batch) (old new : List (Place R))
      (result : Result Candidate PublishFault)
      → tell_batches processors batches ≡ true → Builds hash policy signing states parent processors accepts there batches result
      → (IsErrOf result PeerFailed → Failed faults old new) → (Failed faults old new → ⊥)
      → (let before = map_before states parent in
      Answers hash policy signing states parent before
      (draft_of accepts policy signing.key (λ m others. serial processors m others) before there batches) result) × (result ≢ Err PeerFailed)
