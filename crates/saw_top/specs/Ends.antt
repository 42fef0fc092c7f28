-- What a journal with all blocks has at the end, and what was written of it.
use Rattle.std.specs.Prelude.{◌≡◌, ◌≢◌, ◌⊎◌, ◌≤◌, ℕ, Bool, List, [], Some, None, Result, Ok, Err, IfErr, IfOk, IsErrOf}
use Rattle.std.specs.Io.KnownBytes.{Appends}
use Rattle.saw_address.specs.Maps.{StateMap}
use Rattle.saw_context.specs.Outcome.{Processors}
use Rattle.saw_faults.specs.Counts.{Rose}
use Rattle.saw_journal.specs.Judgement.{Rules}
use Rattle.saw_journal.specs.Ledger.{Ledger, map_under}
use Rattle.saw_merkle.specs.Clashes.{IsClashFor}
use Rattle.saw_node.specs.Hashes.{first_half}
use Rattle.saw_node.specs.Contents.{Node}
use Rattle.saw_publish.specs.Building.{map_before}
use Rattle.saw_receipts.specs.Branches.{ids_in}
use Rattle.saw_receipts.specs.Heads.{head_branch, head_of}
use Rattle.saw_receipts.specs.Running.{Runs, RunsBy}
use Rattle.saw_report.specs.Lines.{head_line}
use Rattle.saw_report.specs.declared.run_fault.RunFault.{RunFault}
use Rattle.saw_report.specs.declared.run_fault.RunFault.TheVariants as runs
use Rattle.saw_store.specs.declared.fault.StoreFault.TheVariants as stores
use Rattle.saw_top.specs.Clashing.{AreAlike}
use Rattle.saw_top.specs.Headline.{IsDone}
use Rattle.saw_top.specs.Listing.{batch_status, batch_text, events_status, events_text, listing, listing_status, proof_status, proof_text, receipts_status, receipts_text}
use Rattle.saw_top.specs.Outside.{End, SomeRose, WritesFront}
use Rattle.saw_top.specs.Publishing.{Publication, Waiting, candidate_status, candidate_text, losses_text, map_left, parent_at, publication_of}
use Rattle.saw_top.specs.Run.{AtEnd, plain_end, status_by}
use Rattle.saw_top.specs.World.{Accepts, rules_with}
use Rattle.saw_top.specs.declared.task.Ending.{Ending}
use Rattle.saw_top.specs.declared.task.Ending.TheVariants.{Batch, Candidate, Events, Head, Entries, Proof, Receipts}

abbrev pub state_of_head : Ledger → StateMap
state_of_head ledger = map_under ledger.states (head_of ledger.blocks)

-- what comes of the batches that wait behind the head
abbrev pub publication_in : Rules → Waiting → Ledger → Publication
publication_in rules waiting ledger =
    publication_of rules waiting.signing.key (map_before ledger.states (parent_at ledger.blocks)) (ids_in (head_branch ledger.blocks)) waiting.batches

-- that of a candidate
abbrev pub end_of_candidate : Rules → Waiting → Ledger → Bool → Publication → AtEnd
end_of_candidate rules waiting ledger refused made = record {
  output = candidate_text rules.hash waiting.signing (parent_at ledger.blocks) made;
  noted = losses_text made;
  status = candidate_status refused made;
  made = map_left made;
}

-- what is written and told at the end, and the status
abbrev pub end_at : Rules → Waiting → Ending → Ledger → Bool → AtEnd
end_at rules waiting Head ledger refused = plain_end (head_line (head_of ledger.blocks)) (status_by refused)
end_at rules waiting (Entries prefix) ledger refused =
    plain_end (listing prefix (state_of_head ledger)) (listing_status prefix (state_of_head ledger))
end_at rules waiting Receipts ledger refused = plain_end (receipts_text ledger.blocks) (receipts_status ledger.blocks)
end_at rules waiting (Batch id) ledger refused = plain_end (batch_text id ledger.blocks) (batch_status id ledger.blocks)
end_at rules waiting (Proof at) ledger refused =
    plain_end (proof_text rules.hash at (head_of ledger.blocks) (state_of_head ledger)) (proof_status (head_of ledger.blocks))
end_at rules waiting (Events known wish) ledger refused = plain_end (events_text known wish ledger.blocks) (events_status known wish ledger.blocks)
end_at rules waiting Candidate ledger refused = end_of_candidate rules waiting ledger refused (publication_in rules waiting ledger)

-- ---- what was written

-- lines were told, then a text was written, and this status came of it; or a prefix of both, since writing failed or
-- memory was refused
pub record Tells (text lines : List ℕ) (code : ℕ) (old new told_old told_new : End (List ℕ)) (result : Result ℕ RunFault) : Type 0 where
  pub output : WritesFront text old.tells new.tells
  pub notes : WritesFront lines told_old.tells told_new.tells
  pub order : (new.tells ≡ old.tells) ⊎ Appends told_old.tells told_new.tells lines
  pub all : IfOk result (λ status. Appends old.tells new.tells text × Appends told_old.tells told_new.tells lines)
  pub same : IfOk result (λ status. status ≡ code)
  pub which : IfErr result (λ e. (e ≡ runs.Write) ⊎ (e ≡ runs.Memory))
  pub later : told_old.faults ≤ told_new.faults
  pub rose : IsErrOf result runs.Write → Rose old.faults new.faults ⊎ Rose told_old.faults told_new.faults

-- a fault of the end: writing or a processor failed, two nodes of one hash, or want of memory
abbrev pub IsOfEnd : RunFault → Type 0
IsOfEnd runs.Write = Unit {0}
IsOfEnd runs.Peer = Unit {0}
IsOfEnd (runs.Collision kept given) = AreAlike kept given
IsOfEnd runs.Memory = Unit {0}
IsOfEnd fault = ⊥

module _ (end : AtEnd) (ledger : Ledger) (old new told_old told_new : End (List ℕ)) where
  -- two nodes collide, of which one is of the map that a candidate would leave; nothing was written or told
  pub record ClashesAt (kept given : Node) : Type 0 where
    pub m : StateMap
    pub made : end.made ≡ Some m
    pub clash : IsClashFor first_half ledger.states m (stores.Collision kept given)
    pub still : new.tells ≡ old.tells
    pub quiet : told_new.tells ≡ told_old.tells

  -- all of an end was written, by how it came
  abbrev pub WritesBy : Result ℕ RunFault → Type 0
  WritesBy (Ok status) = Appends old.tells new.tells end.output × Appends told_old.tells told_new.tells end.noted
      × (status ≡ end.status)
  WritesBy (Err (runs.Collision kept given)) = ClashesAt kept given
  WritesBy (Err fault) = Unit {0}

  -- all of it, or a front; nothing was written before all was told
  pub record WritesEnd (result : Result ℕ RunFault) : Type 0 where
    pub output : WritesFront end.output old.tells new.tells
    pub notes : WritesFront end.noted told_old.tells told_new.tells
    pub order : (new.tells ≡ old.tells) ⊎ Appends told_old.tells told_new.tells end.noted
    pub by : WritesBy result

-- What was done behind all blocks: the end was written, by some way to run batches, or a prefix of it.
module _ (processors : Processors) (accepts : Accepts) (waiting : Waiting) (ending : Ending) (ledger : Ledger) (refused : Bool)
    (old new told_old told_new : End (List ℕ)) (counts new_counts : List ℕ) where
  pub record Finishes (result : Result ℕ RunFault) : Type 0 where
    pub way : Runs
    pub may : RunsBy processors way
    pub writes : WritesEnd (end_at (rules_with first_half accepts way) waiting ending ledger refused) ledger old new told_old told_new
        result
    pub lines : List ℕ
    pub aside : ending ≢ Candidate → lines ≡ []
    pub noted : Appends told_old.tells told_new.tells lines
    pub later : told_old.faults ≤ told_new.faults
    pub done : IfOk result (IsDone ending)
    pub kind : IfErr result IsOfEnd
    pub rose : IsErrOf result runs.Write → Rose old.faults new.faults ⊎ Rose told_old.faults told_new.faults
    pub peer : IsErrOf result runs.Peer → SomeRose counts new_counts
