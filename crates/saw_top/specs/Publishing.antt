-- What is published behind accepted blocks: a candidate of waiting batches, and those that it leaves out.
use Rattle.std.specs.Prelude.{ℕ, Bool, ◌++◌, ◌||◌, List, [], length, Option, Some, None, is_some, option_map, ◌==◌, if◌then◌else◌}
use Rattle.std.specs.List.{flat_map}
use Rattle.saw_address.specs.Maps.{StateMap}
use Rattle.saw_io.specs.Frame.{frame}
use Rattle.saw_journal.specs.Judgement.{Kept, Rules}
use Rattle.saw_messages.specs.declared.batch.Batch.{Batch}
use Rattle.saw_plan.specs.StaticRules.{Ids}
use Rattle.saw_publish.specs.Building.{block_fault}
use Rattle.saw_publish.specs.Candidates.{Signing, content_of}
use Rattle.saw_publish.specs.Drafts.{Draft, draft_of}
use Rattle.saw_publish.specs.Fates.{losses_from}
use Rattle.saw_receipts.specs.Branches.{ids_in}
use Rattle.saw_receipts.specs.Heads.{as_parent, head_branch, head_of}
use Rattle.saw_receipts.specs.declared.block.BlockRecord.{BlockRecord}
use Rattle.saw_receipts.specs.declared.block.Parent.{Parent}
use Rattle.saw_report.specs.Lines.{candidate_line, loss_line}
use Rattle.saw_rules.specs.declared.policy.Placed.{Placed}
use Rattle.saw_top.specs.History.{map_behind, records_of}

-- what is published of, besides accepted blocks: who signs, and the batches that wait
pub record Waiting : Type 0 where
  pub signing : Signing
  pub batches : List Batch

-- the head, as the block that the candidate is put behind
abbrev pub parent_at : List BlockRecord → Option Parent
parent_at blocks = option_map as_parent (head_of blocks)

-- What comes of the batches that wait: their draft, and the fault for which the policy refuses its block. Where no batch is
-- applied there is no block to refuse.
pub record Publication : Type 0 where
  pub draft : Draft
  pub refusal : Option Placed

-- whether no batch is applied
abbrev pub is_nothing : Draft → Bool
is_nothing draft = length draft.applied == 0

-- a draft over this map in a block by this signer, with its refusal
abbrev pub publication_by : Rules → List ℕ → StateMap → Draft → Publication
publication_by rules signer before draft =
    record { draft = draft; refusal = if is_nothing draft then None else block_fault rules.policy signer before draft }

-- of batches over this map, against the ids that are there
abbrev pub publication_of : Rules → List ℕ → StateMap → Ids → List Batch → Publication
publication_of rules signer before there batches =
    publication_by rules signer before (draft_of rules.accepts rules.policy signer rules.runs before there batches)

-- what comes of the batches behind the head
abbrev pub publication_at : Rules → Waiting → List Kept → Publication
publication_at rules waiting accepted =
    publication_of rules waiting.signing.key (map_behind accepted (head_of (records_of accepted))) (ids_in (head_branch (records_of accepted)))
    waiting.batches

-- whether there is no block: no batch is applied, or the policy refuses it
abbrev pub has_no_block : Publication → Bool
has_no_block made = is_nothing made.draft || is_some made.refusal

-- the map that its block leaves, if there is one
abbrev pub map_left : Publication → Option StateMap
map_left made = if has_no_block made then None else Some made.draft.left

-- the frame of its block, if there is one
abbrev pub candidate_text : (List ℕ → List ℕ) → Signing → Option Parent → Publication → List ℕ
candidate_text hash signing parent made = if has_no_block made then [] else frame (content_of hash signing parent made.draft)

-- the line of a refused block
abbrev pub refusal_text : Option Placed → List ℕ
refusal_text None = []
refusal_text (Some placed) = candidate_line placed.k placed.fault

-- the lines of the batches that it leaves out, and that of its refusal
abbrev pub losses_text : Publication → List ℕ
losses_text made = flat_map loss_line (losses_from 0 made.draft.fates) ++ refusal_text made.refusal

-- whether a block of the stream was refused, or there is no block
abbrev pub candidate_status : Bool → Publication → ℕ
candidate_status refused made = if refused || has_no_block made then 1 else 0
