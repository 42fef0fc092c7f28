-- What is kept of the ids of the branches of accepted blocks.
use Rattle.std.specs.Prelude.{◌≡◌, ℕ, Bool, true, false, ◌||◌, List, [], ◌∷◌, ◌++◌, map, Option, Some, None, option_map}
use Rattle.std.specs.Arc.{arc_value}
use Rattle.std.specs.Global.{Global}
use Rattle.std.specs.List.{AllByRecursion, flat_map}
use Rattle.std.specs.Str.{bytes_eq}
use Rattle.std.specs.declared.sync.Arc.{Arc}
use Rattle.indexmap.specs.IndexMap.{IndexMap, get_by}
use Rattle.saw_ids.specs.Seen.{is_among}
use Rattle.saw_ids.specs.Sets.{HasIds}
use Rattle.saw_ids.specs.declared.set.IdSet.{IdSet}
use Rattle.saw_messages.specs.TxShapes.{BatchShape}
use Rattle.saw_plan.specs.BatchShapes.{ids_of}
use Rattle.saw_plan.specs.StaticRules.{Ids}
use Rattle.saw_receipts.specs.declared.block.BlockRecord.{BlockRecord}
use Rattle.saw_receipts.specs.Branches.{branch_of, has_block, ids_in}
use Rattle.saw_journal.specs.IdKeys.{key_of}
use Rattle.saw_journal.specs.declared.branch_ids.BranchIds.{BranchIds}
use Rattle.saw_journal.specs.declared.branch_ids.BranchView.{BranchView}
use Rattle.saw_journal.specs.declared.branch_ids.Holders.{Holders}

-- the id of the first holder of each key
abbrev pub FirstHolders : Type 0 → Type 0
FirstHolders S = IndexMap (List ℕ) (Arc (List ℕ) Global) S

-- whether an id has this key
abbrev pub has_key : Option (List ℕ) → List ℕ → Bool
has_key None key = false
has_key (Some its) key = bytes_eq its key

-- the first holder of an id, if its key is there
abbrev pub holder_in : {S : Type 0} → FirstHolders S → List ℕ → Option (List ℕ)
holder_in holders id = option_map arc_value (get_by (has_key (key_of id)) holders)

-- whether the first holder of an id is one of these blocks
abbrev pub is_held : Option (List ℕ) → List (List ℕ) → Bool
is_held None chain = false
is_held (Some block) chain = is_among chain block

-- of a branch with these blocks exactly these ids are told: by a set of others, or by their first holders
pub record Told (holder : List ℕ → Option (List ℕ)) (chain : List (List ℕ)) (set : IdSet) (ids : List (List ℕ)) : Type 0 where
  pub others : List (List ℕ)
  pub has : HasIds set others
  pub each : (id : List ℕ) → (is_among others id || is_held (holder id) chain) ≡ is_among ids id

-- what is kept of a branch tells exactly these ids
pub record KnowsIds (holders : Holders) (kept : BranchIds) (there : Ids) : Type 0 where
  pub chain : List (List ℕ)
  pub has : HasIds kept.blocks chain
  pub batches : Told (holder_in holders.batches) chain kept.batches there.batches
  pub transactions : Told (holder_in holders.transactions) chain kept.transactions there.transactions

abbrev pub ViewKnows : BranchView → Ids → Type 0
ViewKnows view there = KnowsIds view.holders.now view.branch there

-- besides, this block is one of the branch
pub record KnowsWith (block : List ℕ) (holders : Holders) (kept : BranchIds) (there : Ids) : Type 0 where
  pub knows : KnowsIds holders kept there
  pub here : is_among knows.chain block ≡ true

-- besides, the blocks of the branch were accepted
pub record KnowsBranch (all : List BlockRecord) (holders : Holders) (kept : BranchIds) (there : Ids) : Type 0 where
  pub knows : KnowsIds holders kept there
  pub accepted : (id : List ℕ) → is_among knows.chain id ≡ true → has_block all id ≡ true

-- the ids of batches, and of their transactions
abbrev pub own_ids : List BatchShape → Ids
own_ids batches = record { batches = map (λ batch. batch.id) batches; transactions = flat_map (λ batch. ids_of batch.txs) batches }

-- each first holder was accepted
abbrev pub AreAccepted : List BlockRecord → (List ℕ → Option (List ℕ)) → Type 0
AreAccepted all holder = (id block : List ℕ) → holder id ≡ Some block → has_block all block ≡ true

-- for each of these blocks, one by one, what is kept tells the ids of its branch among all
abbrev pub KeepBranches : List BlockRecord → Holders → List BlockRecord → List BranchIds → Type 0
KeepBranches all holders [] [] = Unit {0}
KeepBranches all holders [] (kept ∷ others) = ⊥
KeepBranches all holders (block ∷ blocks) [] = ⊥
KeepBranches all holders (block ∷ blocks) (kept ∷ others) =
    KnowsBranch all holders kept (ids_in (branch_of (λ block. block) all block.id)) × KeepBranches all holders blocks others

-- what is kept of the ids of all branches
pub record HaveIds (all : List BlockRecord) (holders : Holders) (kept : List BranchIds) : Type 0 where
  pub batches : AreAccepted all (holder_in holders.batches)
  pub transactions : AreAccepted all (holder_in holders.transactions)
  pub branches : KeepBranches all holders all kept

-- there are more first holders, behind those before, which are all this block
pub record AddsHeld {S : Type 0} (block : List ℕ) (old new : FirstHolders S) : Type 0 where
  pub more : List (List ℕ × Arc (List ℕ) Global)
  pub grown : new.entries ≡ old.entries ++ more
  pub are : AllByRecursion (λ entry. arc_value entry.1 ≡ block) more

-- of batches and of transactions
pub record AddHeld (block : List ℕ) (old new : Holders) : Type 0 where
  pub batches : AddsHeld block old.batches new.batches
  pub transactions : AddsHeld block old.transactions new.transactions
