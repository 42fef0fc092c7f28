-- What is true of blocks that go to deterministic processors.
use Rattle.std.specs.Prelude.{◌≡◌, ⊤, ℕ, Bool, true, List, Result, Ok, Err, IfErr, IfOk, IsErrOf}
use Rattle.saw_context.specs.Outcome.{Processors}
use Rattle.saw_context.specs.Serial.{serial}
use Rattle.saw_crew.specs.Desks.{Failed}
use Rattle.saw_receipts.specs.Running.{Runs, RunsBy}
use Rattle.saw_receipts.specs.Telling.{tell_block}
use Rattle.saw_receipts.specs.declared.verdict.Verdict.{Verdict}
use Rattle.saw_rules.specs.Policies.{Policy}
use Rattle.saw_station.specs.DeskPlaces.{Place}
use Rattle.saw_journal.specs.Clashing.{Clashes, ClashesAs}
use Rattle.saw_journal.specs.Judgement.{rules_by}
use Rattle.saw_journal.specs.Ledger.{IsFull, Ledger, Says}
use Rattle.saw_journal.specs.declared.fault.JournalFault.{JournalFault}
use Rattle.saw_journal.specs.declared.fault.JournalFault.TheVariants.{Full, PeerFailed, Collision, OutOfMemory}

-- what is said of such a block, by some way to run its batches, is said of it where they are run one after another
abbrev pub ToldIsSaidSerially : Type 0
ToldIsSaidSerially =
    (hash : List ℕ → List ℕ) (accepts : List ℕ → List ℕ → List ℕ → Bool) (policy : Policy) (processors : Processors) (runs : Runs)
    (old new : Ledger) (content : List ℕ) (verdict : Verdict) → RunsBy processors runs → tell_block processors content ≡ true
    → Says (rules_by hash accepts policy runs) old content verdict new
    → Says (rules_by hash accepts policy (λ m batches. serial processors m batches)) old content verdict new

module _ (hash : List ℕ → List ℕ) (accepts : List ℕ → List ℕ → List ℕ → Bool) (policy : Policy) (processors : Processors) where
  -- the answer to a block whose batches are run one after another: what is said of it, that it finds no room, or two
  -- nodes that collide; unless memory was refused
  abbrev pub AnswersSerially : Ledger → List ℕ → Ledger → Result Verdict JournalFault → Type 0
  AnswersSerially old content new (Ok verdict) =
      Says (rules_by hash accepts policy (λ m batches. serial processors m batches)) old content verdict new
  AnswersSerially old content new (Err Full) = IsFull (rules_by hash accepts policy (λ m batches. serial processors m batches)) old content
  AnswersSerially old content new (Err (Collision kept given)) =
      Clashes (rules_by hash accepts policy (λ m batches. serial processors m batches)) old.states old.blocks content kept given
  AnswersSerially old content new (Err PeerFailed) = ⊥
  AnswersSerially old content new (Err OutOfMemory) = ⊤

module _ {R : Type 0} (faults : R → ℕ) where
  -- Where a block goes to deterministic processors and no count of a processor rose, a call with the clauses of `accept`
  -- gives the answer to it where its batches are run one after another, or memory was refused.
  abbrev pub ToldIsAnsweredSerially : Type 0
  ToldIsAnsweredSerially =
      (hash : List ℕ → List ℕ) (accepts : List ℕ → List ℕ → List ℕ → Bool) (policy : Policy) (processors : Processors)
      (old new : Ledger) (content : List ℕ) (before after : List (Place R)) (result : Result Verdict JournalFault)
      → tell_block processors content ≡ true
      → IfOk result (λ verdict. (runs : Runs) × RunsBy processors runs × Says (rules_by hash accepts policy runs) old content verdict new)
      → (IsErrOf result Full → (runs : Runs) × RunsBy processors runs × IsFull (rules_by hash accepts policy runs) old content)
      → IfErr result (ClashesAs processors hash accepts policy old content)
      → (IsErrOf result PeerFailed → Failed faults before after) → (Failed faults before after → ⊥)
      → AnswersSerially hash accepts policy processors old content new result
