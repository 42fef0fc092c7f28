-- What a journal holds, and what a call leaves of it.
use Rattle.std.specs.Prelude.{◌≡◌, ◌<◌, ℕ, Bool, true, false, List, [], ◌∷◌, ◌++◌, length, Option, Some, None, Result, Ok, Err}
use Rattle.saw_address.specs.Maps.{StateMap, no_entries}
use Rattle.saw_merkle.specs.States.{States, knows, map_at}
use Rattle.saw_receipts.specs.declared.block.BlockRecord.{BlockRecord}
use Rattle.saw_receipts.specs.declared.verdict.BlockFault.{BlockFault}
use Rattle.saw_receipts.specs.declared.verdict.Verdict.{Verdict}
use Rattle.saw_receipts.specs.declared.verdict.Verdict.TheVariants.{Committed, Stored, Refused}
use Rattle.saw_receipts.specs.Heads.{head_of, is_new_head}
use Rattle.saw_journal.specs.Judgement.{Kept, Rules, judged}

-- the accepted blocks in order of arrival, the map of each known root, and how many blocks may be accepted
pub record Ledger : Type 0 where
  pub blocks : List BlockRecord
  pub states : States
  pub limit : ℕ

-- the map behind a block: that under its root; before a first block there is nothing
abbrev pub map_under : States → Option BlockRecord → StateMap
map_under states None = no_entries
map_under states (Some parent) = map_at states parent.root

-- the ledger with one block more, whose map is known
abbrev pub grown : (List ℕ → List ℕ) → Ledger → Kept → Ledger
grown hash ledger kept = record {
  blocks = ledger.blocks ++ kept.block ∷ [];
  states = knows hash ledger.states kept.left;
  limit = ledger.limit;
}

module _ (rules : Rules) where
  -- what comes of a block behind those of a ledger
  abbrev pub judged_in : Ledger → List ℕ → Result Kept BlockFault
  judged_in ledger content = judged rules (map_under ledger.states) ledger.blocks content

  -- a block without fault is accepted; it is the new head, or not
  pub record IsAccepted (old : Ledger) (content : List ℕ) (is_head : Bool) (new : Ledger) : Type 0 where
    pub kept : Kept
    pub fine : judged_in old content ≡ Ok kept
    pub room : length old.blocks < old.limit
    pub head : is_new_head (head_of old.blocks) kept.block ≡ is_head
    pub grown_by : new ≡ grown rules.hash old kept

  -- what a verdict says, and what it leaves
  abbrev pub Says : Ledger → List ℕ → Verdict → Ledger → Type 0
  Says old content Committed new = IsAccepted old content true new
  Says old content Stored new = IsAccepted old content false new
  Says old content (Refused fault) new = (judged_in old content ≡ Err fault) × (new ≡ old)

  -- a block without fault finds no room
  pub record IsFull (old : Ledger) (content : List ℕ) : Type 0 where
    pub kept : Kept
    pub fine : judged_in old content ≡ Ok kept
    pub full : length old.blocks ≡ old.limit
