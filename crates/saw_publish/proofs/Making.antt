-- What is made of a draft.
use Rattle.std.proofs.Common.{◌≡◌, ◌<◌, ◌⊎◌, ℕ, ◌==◌, Bool, true, false, List, [], ◌∷◌, length, map, Option, Some, None, Err, refl, sym, ap, subst, ◌∙◌, inl, inr, arith}
use Rattle.std.proofs.lemmas.Bool.{eqb-true, true≢false}
use Rattle.std.specs.Prelude.{unwrap_or}
use Rattle.saw_address.specs.Maps.{StateMap, no_entries}
use Rattle.saw_context.specs.Outcome.{Processors, map_after}
use Rattle.saw_merkle.specs.Clashes.{IsClashFor}
use Rattle.saw_merkle.specs.States.{States, map_at, state_at}
use Rattle.saw_messages.specs.Blocks.{block_header_pieces, block_pieces}
use Rattle.saw_messages.specs.Reasons.{has_own_reason}
use Rattle.saw_messages.specs.TxShapes.{BatchShape, TxShape}
use Rattle.saw_messages.specs.declared.batch.Batch.{Batch}
use Rattle.saw_messages.specs.declared.talk.Turn.{Turn}
use Rattle.saw_node.specs.Trees.{root_of_map}
use Rattle.saw_plan.specs.StaticRules.{Ids}
use Rattle.saw_receipts.proofs.Ways.{by_serial, is_by_serial}
use Rattle.saw_receipts.specs.Shapes.{batch_in}
use Rattle.saw_receipts.specs.declared.block.Parent.{Parent}
use Rattle.saw_receipts.specs.declared.loss.Loss.{Loss}
use Rattle.saw_store.specs.declared.fault.StoreFault.{StoreFault}
use Rattle.saw_store.specs.declared.fault.StoreFault.TheVariants as stores
use Rattle.saw_wire.specs.Writing.{spelled}
use Rattle.saw_rules.specs.Policies as rules
use Rattle.saw_rules.specs.Policies.{first_fault}
use Rattle.saw_rules.specs.declared.policy.Placed.{Placed}
use Rattle.saw_publish.specs.Building.{Answers, Builds, IsPlain, block_fault, map_before, root_before}
use Rattle.saw_publish.specs.Candidates.{Signing, content_of, header_of, header_with, signed_block}
use Rattle.saw_publish.specs.Drafts.{Draft}
use Rattle.saw_publish.specs.Fates.{further, losses_from, still_in}
use Rattle.saw_publish.specs.LowerFaults.{fault_of_store}
use Rattle.saw_publish.specs.Ran.{IsDraft}
use Rattle.saw_publish.specs.Room.{encoded}
use Rattle.saw_publish.specs.declared.fault.PublishFault.{PublishFault}
use Rattle.saw_publish.specs.declared.fault.PublishFault.TheVariants.{NothingValid, Policy, PeerFailed, Collision, OutOfMemory}
use Rattle.saw_publish.specs.declared.judge.Passed.{Passed}
use Rattle.saw_publish.specs.declared.run.Ran.{Ran}
use Rattle.saw_publish.proofs.Staying.{still_in_map}

-- a fault that tells nothing of the batches is an answer to any
pub plain_builds : (hash : List ℕ → List ℕ) (policy : rules.Policy) (signing : Signing) (states : States) (parent : Option Parent) (processors : Processors)
    → ((tx : TxShape) (turns : List Turn) → has_own_reason (processors.next tx turns) ≡ true) → (accepts : List ℕ → List ℕ → List ℕ → Bool) (there : Ids)
    (batches : List Batch) (fault : PublishFault) → IsPlain fault → Builds hash policy signing states parent processors accepts there batches (Err fault)
plain_builds hash policy signing states parent processors own accepts there batches PeerFailed plain = (by_serial processors, is_by_serial processors own, tt)
plain_builds hash policy signing states parent processors own accepts there batches OutOfMemory plain = (by_serial processors, is_by_serial processors own, tt)
plain_builds hash policy signing states parent processors own accepts there batches (NothingValid dropped) plain = absurd plain
plain_builds hash policy signing states parent processors own accepts there batches (Collision kept given) plain = absurd plain
plain_builds hash policy signing states parent processors own accepts there batches (Policy k fault dropped) plain = absurd plain

ids_in_shapes : (batches : List Batch) → map (λ (batch : BatchShape). batch.id) (map batch_in batches) ≡ map (λ (batch : Batch). batch.header_signature) batches
ids_in_shapes [] = refl
ids_in_shapes (batch ∷ batches) = ap (λ rest. batch.header_signature ∷ rest) (ids_in_shapes batches)

map_empty : {A B : Type 0} (f : A → B) (xs : List A) → map f xs ≡ [] → xs ≡ []
map_empty f [] e = refl
map_empty f (x ∷ xs) e = absurd cc

length_some : {A : Type 0} (xs : List A) → ((xs ≡ []) → ⊥) → 0 < length xs
length_some [] some = absurd (some refl)
length_some (x ∷ xs) some = omega arith

module _ (hash : List ℕ → List ℕ) (policy : rules.Policy) (signing : Signing) (states : States) (parent : Option Parent) (before : StateMap) (passed : Passed)
    (ran : Ran) (draft : Draft) (is : IsDraft before passed ran draft) (applied : List BatchShape) (applied_are : applied ≡ still_in ran.fates passed.batches) where
  -- those that stay in are the applied batches
  applied_is : applied ≡ map batch_in draft.applied
  applied_is = applied_are ∙ ap (still_in ran.fates) is.batches ∙ still_in_map batch_in ran.fates is.staying ∙ ap (map batch_in) is.applied

  abbrev Told : PublishFault → Type 0
  Told fault = Answers hash policy signing states parent before draft (Err fault)

  -- no batch is applied
  pub made_nothing : applied ≡ [] → (fault : PublishFault) → (fault ≡ OutOfMemory) ⊎ ((dropped : List Loss) × (fault ≡ NothingValid dropped)
      × (dropped ≡ losses_from 0 (further passed.fates ran.fates))) → Told fault
  made_nothing empty fault (inl e) = subst Told (sym e) tt
  made_nothing empty fault (inr told) =
      subst Told (sym told.1) (map_empty batch_in draft.applied (sym applied_is ∙ empty), told.2 ∙ ap (losses_from 0) is.fates)

  some_applied : ((applied ≡ []) → ⊥) → 0 < length draft.applied
  some_applied some = length_some draft.applied (λ none. some (applied_is ∙ ap (map batch_in) none))

  -- what the policy finds in the block
  module _ (some : (applied ≡ []) → ⊥) (found : Option Placed)
      (found_is : found ≡ first_fault policy.fault policy.end_fault before signing.key applied) where
    found_in : block_fault policy signing.key before draft ≡ found
    found_in = sym (found_is ∙ ap (first_fault policy.fault policy.end_fault before signing.key) applied_is)

    pub made_refused : (placed : Placed) → found ≡ Some placed → (fault : PublishFault)
        → (fault ≡ OutOfMemory) ⊎ ((dropped : List Loss) × (fault ≡ Policy placed.k placed.fault dropped)
        × (dropped ≡ losses_from 0 (further passed.fates ran.fates))) → Told fault
    made_refused placed e fault (inl told) = subst Told (sym told) tt
    made_refused placed e fault (inr told) =
        subst Told (sym told.1) (some_applied some, found_in ∙ e, told.2 ∙ ap (losses_from 0) is.fates)

    -- two nodes collide, of which one is of the map that those that are leave
    pub made_clash : found ≡ None → (fault : StoreFault) → IsClashFor hash states (map_after before ran.changes) fault → Told (fault_of_store fault)
    made_clash fine (stores.Collision kept given) clash =
        (some_applied some, found_in ∙ fine, subst (λ (m : StateMap). IsClashFor hash states m (stores.Collision kept given)) is.left clash)
    made_clash fine stores.OutOfMemory clash = tt

    -- the block of those that are
    pub made_block : found ≡ None → (ids : List (List ℕ)) → ids ≡ map (λ (batch : BatchShape). batch.id) applied → (root : List ℕ)
        → root ≡ root_of_map hash (map_after before ran.changes) → (block : List ℕ)
        → ((batches : List Batch) → passed.encodings ≡ map encoded batches → block ≡ spelled (block_pieces (signed_block signing.signature
        (spelled (block_header_pieces (header_with signing.key parent ids root))) (still_in ran.fates batches)))) → (dropped : List Loss)
        → dropped ≡ losses_from 0 (further passed.fates ran.fates)
        → (0 < length draft.applied) × (block_fault policy signing.key before draft ≡ None) × (block ≡ content_of hash signing parent draft)
        × (dropped ≡ losses_from 0 draft.fates)
    made_block fine ids ids_are root root_is block written dropped losses =
        let ids_in = ids_are ∙ ap (map (λ (batch : BatchShape). batch.id)) applied_is ∙ ids_in_shapes draft.applied in
        let bytes : List ℕ = spelled (block_header_pieces (header_with signing.key parent ids root)) in
        let said : bytes ≡ spelled (block_header_pieces (header_of signing.key parent draft.applied (root_of_map hash draft.left))) =
        ap (λ header. spelled (block_header_pieces header)) (ap (λ ids. header_with signing.key parent ids root) ids_in
        ∙ ap (header_of signing.key parent draft.applied) (root_is ∙ ap (root_of_map hash) is.left)) in (
          some_applied some,
          found_in ∙ fine,
          written is.staying is.encodings
              ∙ ap (λ applied. spelled (block_pieces (signed_block signing.signature bytes applied))) is.applied
              ∙ ap (λ bytes. spelled (block_pieces (signed_block signing.signature bytes draft.applied))) said,
          losses ∙ ap (losses_from 0) is.fates,
        )

-- ---- whether there are any

pub empty_is : {A : Type 0} (xs : List A) (b : Bool) → b ≡ (length xs == 0) → b ≡ true → xs ≡ []
empty_is [] b e h = refl
empty_is (x ∷ xs) b e h = absurd (omega (arith, eqb-true (length (x ∷ xs)) 0 (sym e ∙ h)))

pub some_are : {A : Type 0} (xs : List A) (b : Bool) → b ≡ (length xs == 0) → b ≡ false → (xs ≡ []) → ⊥
some_are {A = A} xs b e h none = true≢false (ap (λ (xs : List A). length xs == 0) (sym none) ∙ sym e ∙ h)

-- ---- the map behind the parent

pub before_is : (hash : List ℕ → List ℕ) (states : States) (parent : Option Parent) (root : List ℕ)
    → state_at states (root_of_map hash no_entries) ≡ Some no_entries → root ≡ root_before hash parent → map_at states root ≡ map_before states parent
before_is hash states None root empty is = ap (map_at states) is ∙ ap (λ found. unwrap_or found no_entries) empty
before_is hash states (Some parent) root empty is = ap (map_at states) is
