-- What is always so of a journal's parts.
use Rattle.std.specs.Prelude.{◌≡◌, ◌≤◌, ℕ, Bool, true, false, List, [], ◌∷◌, length, map, Option, Some, None, IsSome, slice_get}
use Rattle.std.specs.FinMap as finite
use Rattle.std.specs.List.{AllByRecursion}
use Rattle.saw_address.specs.Maps.{no_entries}
use Rattle.saw_merkle.specs.States.{States, knows, state_at}
use Rattle.saw_receipts.specs.declared.block.BlockRecord.{BlockRecord}
use Rattle.saw_receipts.specs.Branches.{has_first}
use Rattle.saw_receipts.specs.Heads.{head_of}
use Rattle.saw_journal.specs.KnownBranches.{HaveIds}
use Rattle.saw_journal.specs.Linked.{AreLinked}
use Rattle.saw_journal.specs.declared.branch_ids.BranchIds.{BranchIds}
use Rattle.saw_journal.specs.declared.branch_ids.Holders.{Holders}

-- whether some block was accepted
abbrev pub has_any : List BlockRecord → Bool
has_any [] = false
has_any (block ∷ blocks) = true

-- the block at the head's place
abbrev pub head_at : List BlockRecord → Option ℕ → Option BlockRecord
head_at blocks None = None
head_at blocks (Some place) = slice_get blocks place

-- Blocks and their states: the ids that look up are those of the records, each block stands behind those before it
-- and its root is known, a first block came first, and before it only the empty map is known.
pub record IsFounded (hash : List ℕ → List ℕ) (ids : List (List ℕ)) (blocks : List BlockRecord) (states : States) : Type 0 where
  pub ids_are : ids ≡ map (λ block. block.id) blocks
  pub linked : AreLinked blocks
  pub known : AllByRecursion (λ block. IsSome (state_at states block.root)) blocks
  pub first : has_first blocks ≡ has_any blocks
  pub opening : blocks ≡ [] → states ≡ knows hash finite.empty no_entries

-- besides, the ids of each block's branch are kept, the head is the one that was chosen, and no more blocks are there than
-- may be
pub record IsStanding (hash : List ℕ → List ℕ) (ids : List (List ℕ)) (blocks : List BlockRecord) (holders : Holders) (kept : List BranchIds) (head : Option ℕ)
    (states : States) (limit : ℕ) : Type 0 where
  pub founded : IsFounded hash ids blocks states
  pub branches : HaveIds blocks holders kept
  pub chosen : head_at blocks head ≡ head_of blocks
  pub room : length blocks ≤ limit
