-- How accepted blocks hang together: each stands behind one that came before it, and a branch is the chain by previous ids.
use Rattle.std.specs.Prelude.{◌≡◌, ◌&&◌, ◌||◌, false, true, List, [], ◌∷◌, ◌++◌, map, ℕ, Option, Some, None, if◌then◌else◌}
use Rattle.std.specs.List.{AllByRecursion}
use Rattle.std.specs.Str.{bytes_eq}
use Rattle.saw_address.specs.Texts.{is_hex_text}
use Rattle.saw_receipts.specs.declared.block.BlockRecord.{BlockRecord}
use Rattle.saw_journal.specs.BlockFaults.{due_behind}
use Rattle.saw_receipts.specs.Branches.{block_at, branch_of, has_block, has_first, no_block}
use Rattle.saw_journal.specs.Judgement.{Kept}

-- the block before one that states this id as its previous one
abbrev pub parent_in : List BlockRecord → List ℕ → Option BlockRecord
parent_in blocks previous = if bytes_eq previous no_block then None else block_at blocks previous

-- A block that may stand behind these: its id is a new one of 128 hex digits, it is the one first block or the block before it
-- is among them, and it has the number behind that block's.
pub record StandsBehind (before : List BlockRecord) (block : BlockRecord) : Type 0 where
  pub form : is_hex_text 128 block.id ≡ true
  pub fresh : has_block before block.id ≡ false
  pub known : (bytes_eq block.previous no_block || has_block before block.previous) ≡ true
  pub once : (bytes_eq block.previous no_block && has_first before) ≡ false
  pub number : block.number ≡ due_behind (parent_in before block.previous)

-- each block stands behind those that came before it
abbrev pub AreLinked : List BlockRecord → Type 0
AreLinked blocks =
    (before after : List BlockRecord) (block : BlockRecord) → blocks ≡ before ++ block ∷ after → StandsBehind before block

-- blocks of which each states the id of the one before it as its previous one; the first states this id
abbrev pub AreChained : List ℕ → List BlockRecord → Type 0
AreChained previous [] = Unit {0}
AreChained previous (block ∷ others) = (block.previous ≡ previous) × AreChained block.id others

-- a chain of these blocks from a first block to the one with this id
pub record IsChainTo (blocks : List BlockRecord) (id : List ℕ) (chain : List BlockRecord) : Type 0 where
  pub among : AllByRecursion (λ block. block_at blocks block.id ≡ Some block) chain
  pub chained : AreChained no_block chain
  pub front : List BlockRecord
  pub last : BlockRecord
  pub ends : chain ≡ front ++ last ∷ []
  pub named : last.id ≡ id

-- the branch of an accepted block is the one chain by previous ids that ends with it
abbrev pub BranchIsChain : Type 0
BranchIsChain = (blocks : List BlockRecord) → AreLinked blocks → (id : List ℕ) → has_block blocks id ≡ true
    → IsChainTo blocks id (branch_of (λ block. block) blocks id)
    × ((chain : List BlockRecord) → IsChainTo blocks id chain → chain ≡ branch_of (λ block. block) blocks id)

-- the branch of blocks that are kept with their maps has the records of the records' branch
abbrev pub KeptBranchIs : Type 0
KeptBranchIs = (accepted : List Kept) (id : List ℕ)
    → map (λ kept. kept.block) (branch_of (λ kept. kept.block) accepted id)
    ≡ branch_of (λ block. block) (map (λ kept. kept.block) accepted) id
