-- The ids that are kept of branches: where they lie, and once one block more joins.
use Rattle.std.proofs.Common.{◌≡◌, ℕ, zero, suc, ◌<◌, Bool, true, false, List, [], ◌∷◌, ◌++◌, length, get_or, reverse, Option, Some, None, refl, sym, ap}
use Rattle.std.proofs.Common.{subst, ◌∙◌, arith}
use Rattle.std.specs.Prelude.{is_some, slice_get, if◌then◌else◌}
use Rattle.std.specs.Cmp.Lexicographic.{nat_list_eq_equiv, same_text}
use Rattle.std.specs.List.{AllByRecursion}
use Rattle.std.specs.Str.{bytes_eq}
use Rattle.saw_messages.specs.declared.block.BlockHeader.{BlockHeader}
use Rattle.saw_plan.specs.SortingSteps.{both}
use Rattle.saw_plan.specs.StaticRules.{Ids}
use Rattle.saw_receipts.specs.declared.block.BlockRecord.{BlockRecord}
use Rattle.saw_receipts.specs.Branches.{batch_ids, block_at, branch_of, has_block, ids_in, no_block}
use Rattle.saw_journal.specs.BlockFaults.{ids_before, is_first}
use Rattle.saw_journal.specs.KnownBranches.{AddHeld, AreAccepted, HaveIds, KeepBranches, KnowsBranch, ViewKnows, holder_in}
use Rattle.saw_journal.specs.Linked.{AreLinked}
use Rattle.saw_journal.specs.declared.branch_ids.BranchIds.{BranchIds}
use Rattle.saw_journal.specs.declared.branch_ids.BranchView.{BranchView}
use Rattle.saw_journal.specs.declared.branch_ids.Holders.{Holders}
use Rattle.saw_journal.proofs.Branching.{branch_of-new, branch_of-other, no_branch}
use Rattle.saw_journal.proofs.Chains.{no_walk}
use Rattle.saw_journal.proofs.FirstHolders.{Entries, all_accepted, first, grows, knows_same, knows_still}
use Rattle.saw_journal.proofs.Ids.{ids_push_block}
use Rattle.saw_journal.proofs.Linking.{are_back, either_false}

abbrev branch : List BlockRecord → List ℕ → List BlockRecord
branch blocks id = branch_of (λ block. block) blocks id

-- ---- where they lie

named_here : (here : Bool) (one block : BlockRecord) (others : Option BlockRecord) (id : List ℕ) → bytes_eq one.id id ≡ here
    → (others ≡ Some block → block.id ≡ id) → (if here then Some one else others) ≡ Some block → block.id ≡ id
named_here true one block others id is later e =
    let same : one ≡ block = cc in
    ap (λ (block : BlockRecord). block.id) (sym same) ∙ same_text one.id id (sym is)
named_here false one block others id is later e = later e

-- a block that is found by an id has it
has_id : (blocks : List BlockRecord) (id : List ℕ) (block : BlockRecord) → block_at blocks id ≡ Some block → block.id ≡ id
has_id [] id block e = absurd (grind (arith, e))
has_id (one ∷ blocks) id block e = named_here (bytes_eq one.id id) one block (block_at blocks id) id refl (has_id blocks id block) e

none_here : (here : Bool) (block : BlockRecord) (others : Option BlockRecord) → (if here then Some block else others) ≡ None
    → (here ≡ false) × (others ≡ None)
none_here true block others e = absurd cc
none_here false block others e = (refl, e)

none_at : (blocks : List BlockRecord) (id : List ℕ) → block_at blocks id ≡ None → AllByRecursion (λ block. bytes_eq block.id id ≡ false) blocks
none_at [] id e = tt
none_at (block ∷ blocks) id e = let parts = none_here (bytes_eq block.id id) block (block_at blocks id) e in (parts.0, none_at blocks id parts.1)

module _ (all : List BlockRecord) (holders : Holders) where
  kept_within : (blocks : List BlockRecord) (ids : List BranchIds) (place : ℕ) (block : BlockRecord) → KeepBranches all holders blocks ids
      → slice_get blocks place ≡ Some block → place < length ids
  kept_within [] ids place block have e = absurd cc
  kept_within (one ∷ blocks) [] place block have e = absurd have
  kept_within (one ∷ blocks) (known ∷ ids) zero block have e = omega arith
  kept_within (one ∷ blocks) (known ∷ ids) (suc place) block have e = omega (arith, kept_within blocks ids place block have.1 e)

  kept_at : (blocks : List BlockRecord) (ids : List BranchIds) (place : ℕ) (block : BlockRecord) (d : BranchIds) → KeepBranches all holders blocks ids
      → slice_get blocks place ≡ Some block → KnowsBranch all holders (get_or ids place d) (ids_in (branch all block.id))
  kept_at [] ids place block d have e = absurd cc
  kept_at (one ∷ blocks) [] place block d have e = absurd have
  kept_at (one ∷ blocks) (known ∷ ids) zero block d have e =
      let same : one ≡ block = cc in subst (λ (one : BlockRecord). KnowsBranch all holders known (ids_in (branch all one.id))) same have.0
  kept_at (one ∷ blocks) (known ∷ ids) (suc place) block d have e = kept_at blocks ids place block d have.1 e

module _ (blocks : List BlockRecord) (holders : Holders) (ids : List BranchIds) (have : HaveIds blocks holders ids) (id : List ℕ) where
  -- what is kept at the place of the block with this id
  pub known_at : (place : ℕ) (d : BranchIds) (at : Option BlockRecord) → block_at blocks id ≡ at → slice_get blocks place ≡ at → true ≡ is_some at
      → KnowsBranch blocks holders (get_or ids place d) (ids_in (branch blocks id))
  known_at place d None is here some = absurd cc
  known_at place d (Some block) is here some =
      subst (λ (id : List ℕ). KnowsBranch blocks holders (get_or ids place d) (ids_in (branch blocks id))) (has_id blocks id block is)
      (kept_at blocks holders blocks ids place block d have.branches here)

  pub place_within : (place : ℕ) (at : Option BlockRecord) → slice_get blocks place ≡ at → true ≡ is_some at → place < length ids
  place_within place None here some = absurd cc
  place_within place (Some block) here some = kept_within blocks holders blocks ids place block have.branches here

-- no block has this id, and no ids are known
pub known_nowhere : (blocks : List BlockRecord) (holders : Holders) (id : List ℕ) (known : BranchIds) (at : Option BlockRecord) → block_at blocks id ≡ at
    → false ≡ is_some at → KnowsBranch blocks holders known (record { batches = []; transactions = [] })
    → KnowsBranch blocks holders known (ids_in (branch blocks id))
known_nowhere blocks holders id known None is none knows =
    subst (λ (branch : List BlockRecord). KnowsBranch blocks holders known (ids_in branch))
    (sym (no_branch (λ (block : BlockRecord). block) blocks id (none_at blocks id is))) knows
known_nowhere blocks holders id known (Some block) is none knows = absurd cc

-- ---- once one block more joins

module _ (all : List BlockRecord) (new : BlockRecord) (before after : Holders) (fresh : has_block all new.id ≡ false)
    (adds : AddHeld new.id before after) where
  still_have : (blocks : List BlockRecord) (ids : List BranchIds) → has_block blocks new.id ≡ false → KeepBranches all before blocks ids
      → KeepBranches (all ++ new ∷ []) after blocks ids
  still_have [] [] apart have = tt
  still_have [] (known ∷ ids) apart have = absurd have
  still_have (block ∷ blocks) [] apart have = absurd have
  still_have (block ∷ blocks) (known ∷ ids) apart have =
      let parts = either_false (bytes_eq block.id new.id) (has_block blocks new.id) apart in (
        subst (λ (branch : List BlockRecord). KnowsBranch (all ++ new ∷ []) after known (ids_in branch))
            (sym (branch_of-other (λ (block : BlockRecord). block) all new block.id (nat_list_eq_equiv.symm new.id block.id ∙ parts.0)))
            (knows_still all new before after fresh adds known (ids_in (branch all block.id)) have.0),
        still_have blocks ids parts.1 have.1,
      )

have_push : (all : List BlockRecord) (holders : Holders) (blocks : List BlockRecord) (new : BlockRecord) (ids : List BranchIds) (known : BranchIds)
    → KeepBranches all holders blocks ids → KnowsBranch all holders known (ids_in (branch all new.id))
    → KeepBranches all holders (blocks ++ new ∷ []) (ids ++ known ∷ [])
have_push all holders [] new [] known have knows = (knows, tt)
have_push all holders [] new (one ∷ ids) known have knows = absurd have
have_push all holders (block ∷ blocks) new [] known have knows = absurd have
have_push all holders (block ∷ blocks) new (one ∷ ids) known have knows = (have.0, have_push all holders blocks new ids known have.1 knows)

-- all have their ids, and the new block those of the branch before it and its own
pub have_more : (blocks : List BlockRecord) (new : BlockRecord) (before after : Holders) (ids : List BranchIds) (known : BranchIds)
    → has_block blocks new.id ≡ false → AddHeld new.id before after → HaveIds blocks before ids
    → KnowsBranch (blocks ++ new ∷ []) after known (both (ids_in (branch blocks new.previous)) (batch_ids new.batches))
    → HaveIds (blocks ++ new ∷ []) after (ids ++ known ∷ [])
have_more blocks new before after ids known fresh adds have knows = record {
  batches = all_accepted blocks new (holder_in before.batches) (holder_in after.batches) (grows new.id before.batches after.batches adds.batches)
      have.batches;
  transactions = all_accepted blocks new (holder_in before.transactions) (holder_in after.transactions)
      (grows new.id before.transactions after.transactions adds.transactions) have.transactions;
  branches = have_push (blocks ++ new ∷ []) after blocks new ids known (still_have blocks new before after fresh adds blocks ids fresh have.branches)
      (subst (λ (there : Ids). KnowsBranch (blocks ++ new ∷ []) after known there)
      (sym (ap ids_in (branch_of-new (λ (block : BlockRecord). block) blocks new) ∙ ids_push_block (branch blocks new.previous) new)) knows);
}

keep_same : (all : List BlockRecord) (before after : Holders) (blocks : List BlockRecord) (ids : List BranchIds)
    → after.batches.entries ≡ before.batches.entries → after.transactions.entries ≡ before.transactions.entries → KeepBranches all before blocks ids
    → KeepBranches all after blocks ids
keep_same all before after [] [] batches transactions have = tt
keep_same all before after [] (known ∷ ids) batches transactions have = absurd have
keep_same all before after (block ∷ blocks) [] batches transactions have = absurd have
keep_same all before after (block ∷ blocks) (known ∷ ids) batches transactions have = (
  knows_same all before after known (ids_in (branch all block.id)) batches transactions have.0,
  keep_same all before after blocks ids batches transactions have.1,
)

-- holders with the same entries tell the same
pub have_same : (all : List BlockRecord) (before after : Holders) (ids : List BranchIds) → after.batches.entries ≡ before.batches.entries
    → after.transactions.entries ≡ before.transactions.entries → HaveIds all before ids → HaveIds all after ids
have_same all before after ids batches transactions have = record {
  batches = subst (λ (es : Entries). AreAccepted all (first es)) (sym batches) have.batches;
  transactions = subst (λ (es : Entries). AreAccepted all (first es)) (sym transactions) have.transactions;
  branches = keep_same all before after all ids batches transactions have.branches;
}

-- ---- before a block

-- the ids before a block are those of the branch that ends with the id before it
pub known_before : (blocks : List BlockRecord) (header : BlockHeader) (view : BranchView) → AreLinked blocks
    → ViewKnows view (ids_in (branch blocks header.previous_block_id)) → ViewKnows view (ids_before blocks header)
known_before blocks header view linked knows = by_first (is_first header) refl where
  by_first : (first : Bool) → is_first header ≡ first → ViewKnows view (ids_in (if first then [] else branch blocks header.previous_block_id))
  by_first false e = knows
  by_first true e =
      let none = ap (branch blocks) (same_text header.previous_block_id no_block (sym e)) ∙ no_walk (reverse blocks) (are_back blocks linked) in
      subst (λ (blocks : List BlockRecord). ViewKnows view (ids_in blocks)) none knows
