-- What there is to publish, as it was made.
use Rattle.std.specs.Prelude.{◌≡◌, ℕ, Bool, false, List, [], Option, Some, None, option_map, Result, Ok, Err, if◌then◌else◌}
use Rattle.saw_context.specs.Outcome.{Processors}
use Rattle.saw_io.specs.Frame.{frame}
use Rattle.saw_journal.specs.Ledger.{Ledger}
use Rattle.saw_merkle.specs.Clashes.{IsClashFor}
use Rattle.saw_node.specs.Hashes.{first_half}
use Rattle.saw_publish.specs.Candidates.{Signing, content_of}
use Rattle.saw_publish.specs.Fates.{losses_from}
use Rattle.saw_receipts.specs.Running.{Runs, RunsBy}
use Rattle.saw_report.specs.declared.run_fault.RunFault.{RunFault}
use Rattle.saw_report.specs.declared.run_fault.RunFault.TheVariants.{Collision, Memory, Peer}
use Rattle.saw_store.specs.declared.fault.StoreFault.TheVariants as stores
use Rattle.saw_top.specs.Ends.{publication_in}
use Rattle.saw_top.specs.Publishing.{Publication, Waiting, has_no_block, parent_at}
use Rattle.saw_top.specs.Run.{status_by}
use Rattle.saw_top.specs.World.{Accepts, rules_with}
use Rattle.saw_top.specs.declared.publishing.Made.{Made}

-- the bytes of the block, if there is one
abbrev pub block_in : Made → Option (List ℕ)
block_in made = option_map (λ block. block.items) made.block

-- what is written of a block, and the status that comes of it
abbrev pub text_with : Option (List ℕ) → List ℕ
text_with None = []
text_with (Some content) = frame content

abbrev pub code_with : Bool → Option (List ℕ) → ℕ
code_with refused None = 1
code_with refused (Some content) = status_by refused

module _ (signing : Signing) (ledger : Ledger) (publication : Publication) where
  -- the bytes of the block behind the head, if there is one
  abbrev pub content_if : Option (List ℕ)
  content_if =
      if has_no_block publication then None else Some (content_of first_half signing (parent_at ledger.blocks) publication.draft)

  -- what was made is the block, the refusal and the rejected batches; or, if there is a block, two nodes collide, of
  -- which one is of the map that it leaves
  abbrev pub MakesAs : Result Made RunFault → Type 0
  MakesAs (Ok made) =
      (block_in made ≡ content_if) × (made.refusal ≡ publication.refusal) × (made.dropped ≡ losses_from 0 publication.draft.fates)
  MakesAs (Err (Collision kept given)) =
      (has_no_block publication ≡ false) × IsClashFor first_half ledger.states publication.draft.left (stores.Collision kept given)
  MakesAs (Err Peer) = Unit {0}
  MakesAs (Err Memory) = Unit {0}
  MakesAs (Err fault) = ⊥

-- what was made behind the head of a ledger, by some way to run batches one after another
abbrev pub Makes : Processors → Accepts → Waiting → Ledger → Result Made RunFault → Type 0
Makes processors accepts waiting ledger (Err Peer) = Unit {0}
Makes processors accepts waiting ledger (Err Memory) = Unit {0}
Makes processors accepts waiting ledger result = (runs : Runs) × RunsBy processors runs
    × MakesAs waiting.signing ledger (publication_in (rules_with first_half accepts runs) waiting ledger) result
