-- The blocks of a vouched stream, judged one behind another.
use Rattle.std.proofs.Common.{◌≡◌, ◌<◌, ◌≤◌, ◌||◌, ℕ, zero, suc, true, false, List, [], ◌∷◌, ◌++◌, length, map, Option, Some, None, Ok}
use Rattle.std.proofs.Common.{refl, sym, ap, ap₂, subst, ◌∙◌, arith}
use Rattle.std.specs.Option.{option_or}
use Rattle.std.specs.Prelude.{option_and_then, option_map}
use Rattle.std.specs.List.{flat_map, list_any, range_with_len}
use Rattle.std.specs.Str.{bytes_eq}
use Rattle.std.proofs.lemmas.List.{length_push, map_push}
use Rattle.saw_address.specs.Maps.{StateMap, value_at}
use Rattle.saw_generate.proofs.Every.{every_batch_applies, no_setting}
use Rattle.saw_generate.proofs.Places.{ids_more, parts_more}
use Rattle.saw_generate.proofs.WholeBlocks.{batches_free, block_good, none_failed, number_is}
use Rattle.saw_generate.proofs.FreshIds.{none_dropped}
use Rattle.saw_generate.specs.Laws.{results_at}
use Rattle.saw_generate.specs.Streams.{batches_at, block_at, content_at, map_after_blocks, parent_after, root_at}
use Rattle.saw_generate.specs.declared.wish.GenerateWish.{GenerateWish}
use Rattle.saw_identity.proofs.Kept.{nobody_denied}
use Rattle.saw_identity.specs.Addresses.{policy_address, role_address}
use Rattle.saw_identity.specs.Permissions.{fault, permissions}
use Rattle.saw_identity.specs.Stations.{identity_offers, with_identity}
use Rattle.saw_journal.proofs.Branching.{branch_of-new}
use Rattle.saw_journal.proofs.Ids.{ids_push_block}
use Rattle.saw_journal.proofs.Judging.{stands}
use Rattle.saw_journal.proofs.Linking.{linked_push, none_linked}
use Rattle.saw_journal.specs.BlockFaults.{first_in, ids_before, parent_of, place_tests}
use Rattle.saw_journal.specs.BlockShapes.{Parts, parts_of}
use Rattle.saw_journal.specs.Judgement.{Kept, kept_of}
use Rattle.saw_journal.specs.Linked.{AreLinked, StandsBehind}
use Rattle.saw_messages.specs.TxShapes.{BatchShape}
use Rattle.saw_messages.specs.declared.batch.Batch.{Batch}
use Rattle.saw_messages.specs.declared.block.BlockHeader.{BlockHeader}
use Rattle.saw_messages.specs.declared.outcome.Reason.TheVariants.{Remote}
use Rattle.saw_messages.specs.declared.talk.Action.TheVariants as actions
use Rattle.saw_node.specs.Hashes.{first_half}
use Rattle.saw_plan.specs.BatchShapes.{txs_of}
use Rattle.saw_plan.specs.StaticRules.{Ids}
use Rattle.saw_plan.specs.SortingSteps.{both}
use Rattle.saw_publish.specs.Candidates.{Signing, header_of, header_with, number_behind, previous_of}
use Rattle.saw_receipts.specs.Branches.{branch_of, has_block, ids_in}
use Rattle.saw_receipts.specs.Heads.{as_parent, head_of, is_new_head}
use Rattle.saw_receipts.specs.Running.{Runs}
use Rattle.saw_receipts.specs.declared.block.BlockRecord.{BlockRecord}
use Rattle.saw_receipts.specs.declared.block.Parent.{Parent}
use Rattle.saw_rules.proofs.Unread.{none_behind, nothing_read}
use Rattle.saw_rules.specs.Policies.{first_fault}
use Rattle.saw_rules.specs.OnChainRules.{families_key, on_chain, rules_key}
use Rattle.saw_rules.specs.Families.{families_of}
use Rattle.saw_rules.specs.RuleTexts.{rules_of}
use Rattle.saw_context.specs.Serial.{left_after}
use Rattle.saw_context.specs.declared.batch_result.BatchResult.{BatchResult}
use Rattle.saw_schedule.specs.BatchResults.{first_failure}
use Rattle.saw_settings.specs.Keys.{address_of}
use Rattle.saw_settings.specs.Settings.{setting_of, value_by}
use Rattle.saw_station.specs.Serving.{alone}
use Rattle.saw_top.specs.GeneratedLaws.{IsVouchedFor, batch_ids_at, transaction_ids_at, alone_by}
use Rattle.saw_top.specs.History.{judged_behind, map_behind, record_of, records_of}
use Rattle.saw_top.specs.World.{Accepts, governed, processors_alone, serially}
use Rattle.saw_top.proofs.BehindHead.{IsHead, becomes_head, branch_is, head_is, ids_are, is_head, parent_is, placed}
use Rattle.saw_top.proofs.Branching.{left_last}
use Rattle.saw_top.proofs.BuiltInAlike.{generated_built_in, serial_same}
use Rattle.saw_top.proofs.GeneratedIds.{kept_ids}
use Rattle.saw_top.proofs.GeneratedSigned.{batches_differ, block_is_new, block_signed, id_at, transactions_differ}
use Rattle.saw_top.proofs.NextBlocks.{IsFaultless, judged_over, judged_read}

-- ---- accepted blocks and their records

has_mapped : (blocks : List BlockRecord) (id : List ℕ) → list_any (λ other. bytes_eq other id) (map (λ block. block.id) blocks) ≡ has_block blocks id
has_mapped [] id = refl
has_mapped (block ∷ blocks) id = ap (λ b. bytes_eq block.id id || b) (has_mapped blocks id)

-- ---- settings

-- where nothing is kept at addresses that begin with 0 no setting is set
none_set : (m : StateMap) (key : List ℕ) → ((tail : List ℕ) → value_at m (0 ∷ tail) ≡ None) → setting_of m key ≡ None
unfolding setting_of address_of
none_set m key none = ap (value_by key) (none _)

none_kept : (m : StateMap) → ((tail : List ℕ) → value_at m (0 ∷ tail) ≡ None)
    → ((name : List ℕ) → value_at m (role_address name) ≡ None) × ((name : List ℕ) → value_at m (policy_address name) ≡ None)
unfolding role_address policy_address
none_kept m none = (λ name. none _, λ name. none _)

-- and no block is refused for what they say
unset_passes : (m : StateMap) (signer : List ℕ) (batches : List BatchShape) → ((tail : List ℕ) → value_at m (0 ∷ tail) ≡ None)
    → first_fault governed.fault governed.end_fault m signer batches ≡ None
unfolding governed on_chain permissions
unset_passes m signer batches none =
    let read = nothing_read m (ap (option_and_then families_of) (none_set m families_key none)) (ap (option_and_then rules_of) (none_set m rules_key none)) in
    let kept = none_kept m none in
    none_behind governed m signer
    (λ before batch. ap (λ found. option_or found (fault m signer before batch)) (read.0 signer before batch)
    ∙ nobody_denied m kept.0 kept.1 signer before batch)
    (λ batches. ap (λ found. option_or found None) (read.1 batches)) [] batches

-- ---- what is kept of a stream

module _ (accepts : Accepts) (signing : Signing) (wish : GenerateWish) where
  abbrev runs : Runs
  runs = (serially processors_alone).candidate

  abbrev header_at : ℕ → BlockHeader
  header_at b = header_of signing.key (parent_after signing wish b) (batches_at signing wish b) (root_at signing wish b)

  abbrev parts_at : ℕ → Parts
  parts_at b = parts_of (block_at signing wish b) (header_at b)

  abbrev pub kept_at : ℕ → Kept
  kept_at b = kept_of first_half (parts_at b) (map_after_blocks signing wish b) (results_at signing wish b)

  -- the accepted blocks behind so many
  unfoldable pub accepted_after : ℕ → List Kept
  accepted_after zero = []
  accepted_after (suc b) = accepted_after b ++ kept_at b ∷ []

  abbrev records_after : ℕ → List BlockRecord
  records_after b = records_of (accepted_after b)

  -- what the next block states as the id before it
  abbrev previous : ℕ → List ℕ
  previous b = previous_of (parent_after signing wish b)

  -- the ids of so many blocks
  abbrev ids_after : ℕ → Ids
  ids_after b = record {
    batches = flat_map (batch_ids_at signing wish) (range_with_len 0 b);
    transactions = flat_map (transaction_ids_at signing wish) (range_with_len 0 b);
  }

  -- How so many blocks stand behind one another: the head, the map behind it, and what the branch to it has.
  pub record IsBehind (b : ℕ) : Type 0 where
    pub linked : AreLinked (records_after b)
    pub parent : option_map as_parent (head_of (records_after b)) ≡ parent_after signing wish b
    pub left : map_behind (accepted_after b) (head_of (records_after b)) ≡ map_after_blocks signing wish b
    pub ids : ids_in (branch_of (λ block. block) (records_after b) (previous b)) ≡ ids_after b
    pub blocks : map (λ block. block.id) (records_after b) ≡ map (id_at signing wish) (range_with_len 0 b)
    pub count : length (accepted_after b) ≡ b

  behind_none : IsBehind 0
  unfolding accepted_after parent_after map_after_blocks
  behind_none = record { linked = none_linked; parent = refl; left = refl; ids = refl; blocks = refl; count = refl }

  -- ---- one block more

  module _ (few : wish.blocks ≤ 1000) (narrow : wish.batches ≤ 5000) (vouched : IsVouchedFor signing wish accepts) (b : ℕ) (low : b < wish.blocks)
      (is : IsBehind b) where
    abbrev blocks : List BlockRecord
    blocks = records_after b

    abbrev ids : List (List ℕ)
    ids = map (λ (batch : Batch). batch.header_signature) (batches_at signing wish b)

    abbrev header_behind : Option Parent → BlockHeader
    header_behind parent = header_with signing.key parent ids (root_at signing wish b)

    abbrev new : BlockRecord
    new = (kept_at b).block

    at_head : IsHead (records_after b) (head_of (records_after b))
    at_head = is_head (records_after b) (head_of (records_after b)) is.linked refl

    fresh : has_block (records_after b) (id_at signing wish b) ≡ false
    fresh =
        sym (has_mapped blocks (id_at signing wish b))
        ∙ ap (λ ids. list_any (λ other. bytes_eq other (id_at signing wish b)) ids) is.blocks ∙ block_is_new accepts signing wish vouched b low

    parent_found : parent_of (records_after b) (header_at b) ≡ head_of (records_after b)
    parent_found =
        subst (λ (parent : Option Parent). parent_of blocks (header_behind parent) ≡ head_of blocks) is.parent
        (parent_is signing.key ids (root_at signing wish b) blocks (head_of blocks) at_head)

    ids_found : ids_before (records_after b) (header_at b) ≡ ids_after b
    ids_found =
        subst (λ (parent : Option Parent). ids_before blocks (header_behind parent) ≡ ids_in (branch_of (λ block. block) blocks (previous_of parent))) is.parent
        (ids_are signing.key ids (root_at signing wish b) blocks (head_of blocks) at_head ∙ ap ids_in (branch_is blocks (head_of blocks) at_head))
        ∙ is.ids

    well_placed : first_in (place_tests (records_after b) (id_at signing wish b) (header_at b)) ≡ None
    well_placed =
        subst (λ (parent : Option Parent). first_in (place_tests blocks (id_at signing wish b) (header_behind parent)) ≡ None) is.parent
        (placed signing.key ids (root_at signing wish b) blocks (head_of blocks) (id_at signing wish b) at_head fresh)

    none_fails : first_failure 0 (results_at signing wish b) ≡ None
    none_fails = none_failed 0 (results_at signing wish b) (every_batch_applies signing wish vouched.key few narrow b low)

    abbrev before : StateMap
    before = map_after_blocks signing wish b

    -- no setting is set
    unset : (tail : List ℕ) → value_at before (0 ∷ tail) ≡ None
    unset tail = no_setting signing wish vouched.key few narrow b low tail

    -- its batches come to what they come to by the built-in processors alone
    ran : runs before (txs_of (parts_at b).batches) ≡ results_at signing wish b
    ran =
        serial_same (with_identity (λ tx turns. actions.Invalid Remote)) (λ tx turns. actions.Invalid Remote) true true (identity_offers []) [] before
        (txs_of (parts_at b).batches) (generated_built_in signing wish vouched.key few narrow b low)

    faultless : IsFaultless first_half governed runs (records_after b) (map_after_blocks signing wish b) (ids_after b) (parts_at b)
        (map_after_blocks signing wish (suc b))
    unfolding map_after_blocks
    faultless = record {
      placed = well_placed;
      whole = none_dropped 0 (ids_after b) (batches_at signing wish b) (batches_free signing wish vouched.key few narrow b low)
          (batches_differ accepts signing wish vouched b low) (transactions_differ accepts signing wish vouched b low);
      allowed = unset_passes before signing.key (parts_at b).batches unset;
      valid = ap (first_failure 0) ran ∙ none_fails;
      left_is = ap (left_after before) ran;
      states = refl;
    }

    -- the block is kept
    pub judged_at : judged_behind (alone_by accepts) b (accepted_after b) (content_at signing wish b) ≡ Ok (kept_at b)
    judged_at =
        let good = block_good signing wish vouched.key few narrow accepts (block_signed accepts signing wish vouched) b low in
        judged_read first_half accepts governed runs (map_behind (accepted_after b)) blocks (content_at signing wish b) (block_at signing wish b)
        (header_at b) good.2 good.0 good.1
        ∙ judged_over first_half governed runs (map_behind (accepted_after b)) blocks (parts_at b) (map_after_blocks signing wish (suc b))
        (map_after_blocks signing wish b) (ids_after b)
        (ap (map_behind (accepted_after b)) parent_found ∙ is.left) ids_found faultless
        ∙ ap (λ (results : List BatchResult). Ok (kept_of first_half (parts_at b) before results)) ran

    -- and is the new head
    pub new_head : is_new_head (head_of (records_after b)) (kept_at b).block ≡ true
    new_head = becomes_head (head_of blocks) new (sym (ap number_behind is.parent))

    stands_behind : StandsBehind (records_after b) (kept_at b).block
    stands_behind =
        stands blocks (id_at signing wish b) (header_at b) (sym well_placed)
        (block_signed accepts signing wish vouched b low).header.form new refl refl refl

    records_more : records_of (accepted_after b ++ kept_at b ∷ []) ≡ records_after b ++ (kept_at b).block ∷ []
    records_more = map_push record_of (accepted_after b) (kept_at b)

    ids_now : ids_in (branch_of (λ block. block) (records_after b ++ (kept_at b).block ∷ []) (kept_at b).block.id) ≡ ids_after (suc b)
    ids_now =
        let own =
        kept_ids (alone []) (batches_at signing wish b) (map_after_blocks signing wish b)
        (every_batch_applies signing wish vouched.key few narrow b low) in
        ap ids_in (branch_of-new (λ (block : BlockRecord). block) blocks new) ∙ ids_push_block (branch_of (λ block. block) blocks (previous b)) new
        ∙ ap₂ both is.ids own
        ∙ ap₂ (λ (batches transactions : List (List ℕ)). record { batches = batches; transactions = transactions })
        (sym (parts_more (batch_ids_at signing wish) b)) (sym (parts_more (transaction_ids_at signing wish) b))

    behind_more : IsBehind (suc b)
    unfolding accepted_after parent_after map_after_blocks
    behind_more = record {
      linked = subst AreLinked (sym records_more) (linked_push blocks new is.linked stands_behind);
      parent = ap (λ (blocks : List BlockRecord). option_map as_parent (head_of blocks)) records_more
          ∙ ap (option_map as_parent) (head_is blocks new new_head)
          ∙ ap (λ (number : ℕ). Some (record { number = number; id = id_at signing wish b; root = root_at signing wish b })) (number_is signing wish b);
      left = ap (λ (blocks : List BlockRecord). map_behind (accepted_after b ++ kept_at b ∷ []) (head_of blocks)) records_more
          ∙ ap (map_behind (accepted_after b ++ kept_at b ∷ [])) (head_is blocks new new_head) ∙ left_last (accepted_after b) (kept_at b) fresh;
      ids = ap (λ (blocks : List BlockRecord). ids_in (branch_of (λ block. block) blocks (kept_at b).block.id)) records_more ∙ ids_now;
      blocks = ap (map (λ (block : BlockRecord). block.id)) records_more ∙ map_push (λ (block : BlockRecord). block.id) blocks new
          ∙ ap (λ (ids : List (List ℕ)). ids ++ id_at signing wish b ∷ []) is.blocks ∙ sym (ids_more (id_at signing wish) b);
      count = length_push (accepted_after b) (kept_at b) ∙ omega (arith, is.count);
    }

  -- so many blocks of a vouched stream stand so
  pub all_behind : wish.blocks ≤ 1000 → wish.batches ≤ 5000 → IsVouchedFor signing wish accepts → (b : ℕ) → b ≤ wish.blocks → IsBehind b
  all_behind few narrow vouched zero low = behind_none
  all_behind few narrow vouched (suc b) low =
      behind_more few narrow vouched b (omega (arith, low)) (all_behind few narrow vouched b (omega (arith, low)))
