-- What was written when the judging of a stream ended.
use Rattle.std.specs.Prelude.{◌≡◌, ◌⊎◌, ◌≤◌, ◌<◌, ℕ, Bool, List, [], ◌∷◌, ◌++◌, length, slice_get, Option, Some, None, Result, Ok, Err, IfErr, IfSome, IsErrOf}
use Rattle.std.specs.Io.KnownBytes.{Appends, Consumes, IsAtEnd}
use Rattle.saw_address.specs.Maps.{StateMap}
use Rattle.saw_io.specs.Frame.{frame_at, IsPart}
use Rattle.saw_journal.specs.Ledger.{Ledger}
use Rattle.saw_node.specs.Hashes.{first_half}
use Rattle.saw_node.specs.Contents.{Node}
use Rattle.saw_receipts.specs.Running.{Runs, RunsBy}
use Rattle.saw_top.specs.History.{maps_of, some_refused, tried}
use Rattle.saw_top.specs.Limits.{max_frames, max_length}
use Rattle.saw_top.specs.Outside.{WritesFront, Outside, SomeRose, lines_side, other_side}
use Rattle.saw_top.specs.Reports.{report}
use Rattle.saw_top.specs.Run.{fault_of, run_of, run_to}
use Rattle.saw_top.specs.KeptBlocks.{IsAfter}
use Rattle.saw_top.specs.Stream.{Reads, stream_of}
use Rattle.saw_report.specs.declared.run_fault.RunFault.{RunFault}
use Rattle.saw_report.specs.declared.run_fault.RunFault.TheVariants.{Truncated, TooLong, Read, Write, Peer, Collision, Memory}
use Rattle.saw_top.specs.declared.task.Lines.{Lines}
use Rattle.saw_context.specs.Outcome.{Processors}
use Rattle.saw_faults.specs.Counts.{Rose}
use Rattle.saw_top.specs.Clashing.{ClashIn, TellsAlike}
use Rattle.saw_top.specs.EndingFaults.{IsOfStream}
use Rattle.saw_top.specs.World.{Accepts, Judging}

-- a part of a frame was taken, a length, or a whole frame or the end
abbrev pub TakesFrame : List ℕ → Option (List ℕ) → Type 0
TakesFrame rest left = ((taken : List ℕ) × Consumes (Some rest) left taken × ((length taken ≤ 4) ⊎ IsPart taken))
    ⊎ ((next : Option (List ℕ)) × (behind : List ℕ) × (frame_at max_length rest ≡ Ok (next, behind)) × (left ≡ Some behind))

-- of the rest behind so many frames at most what comes next was taken; behind the last that may begin, one byte
abbrev pub TakesNext : ℕ → List ℕ → Option (List ℕ) → Type 0
TakesNext count rest left = ((count < max_frames) × TakesFrame rest left)
    ⊎ ((count ≡ max_frames) × (taken : List ℕ) × Consumes (Some rest) left taken × (length taken ≤ 1))

-- a length was taken behind whole frames, and nothing behind it
abbrev pub StopsAtLength : List ℕ → Option (List ℕ) → Type 0
StopsAtLength bytes left = (frames : List (List ℕ)) × (rest : List ℕ) × Reads frames bytes rest
    × (taken : List ℕ) × Consumes (Some rest) left taken × (length taken ≡ 4)

module _ (judging : Judging) (lines : Lines) where
  -- what is written for the first so many frames of a stream
  abbrev pub report_to : List ℕ → ℕ → List ℕ
  report_to bytes count = report lines 0 (run_to judging bytes count).said

  -- All that was taken of the input is whole frames, whose lines were written, and less than a frame: each line is
  -- written before more of the input is asked for.
  pub record IsUpToDate (bytes : List ℕ) (left old new : Option (List ℕ)) : Type 0 where
    pub frames : List (List ℕ)
    pub rest : List ℕ
    pub reads : Reads frames bytes rest
    pub told : length frames ≤ length (run_of judging bytes).said
    pub few : length frames ≤ max_frames
    pub taken : List ℕ
    pub consumed : Consumes (Some rest) left taken
    pub part : IsPart taken
    pub written : Appends old new (report_to bytes (length frames))

  -- Each frame but the last that was taken has its line, and of what comes next a part was written.
  pub record IsPrompt (bytes : List ℕ) (left old new : Option (List ℕ)) : Type 0 where
    pub frames : List (List ℕ)
    pub rest : List ℕ
    pub reads : Reads frames bytes rest
    pub told : length frames ≤ length (run_of judging bytes).said
    pub next : TakesNext (length frames) rest left
    pub part : List ℕ
    pub written : Appends old new (report_to bytes (length frames) ++ part)

  -- Two different nodes of one hash were met behind whole frames that have their lines: one of the map that the next
  -- block would leave, and one of that map, of the empty one, or of one that an earlier accepted block leaves.
  pub record StopsAtClash (bytes : List ℕ) (left old new : Option (List ℕ)) (kept given : Node) : Type 0 where
    pub frames : List (List ℕ)
    pub content : List ℕ
    pub rest : List ℕ
    pub reads : Reads (frames ++ content ∷ []) bytes rest
    pub left_is : left ≡ Some rest
    pub m : StateMap
    pub would : slice_get (tried judging 0 (stream_of bytes).frames []) (length frames) ≡ Some (Some m)
    pub written : Appends old new (report_to bytes (length frames))
    pub clash : ClashIn first_half m (maps_of (run_to judging bytes (length frames)).accepted) kept given

  -- the lines of all blocks
  abbrev pub report_in : List ℕ → List ℕ
  report_in bytes = report lines 0 (run_of judging bytes).said

  -- all blocks were judged, and nothing is left
  pub record JudgesAll (bytes : List ℕ) (left old new : Option (List ℕ)) (refused : Bool) (ledger : Ledger) : Type 0 where
    pub fine : fault_of judging bytes ≡ None
    pub ended : IsAtEnd left
    pub written : Appends old new (report_in bytes)
    pub some : refused ≡ some_refused (run_of judging bytes).said
    pub after : IsAfter (run_of judging bytes).accepted ledger

  -- all blocks were judged before this fault
  abbrev pub JudgesTo : List ℕ → Option (List ℕ) → Option (List ℕ) → RunFault → Type 0
  JudgesTo bytes old new fault = (fault_of judging bytes ≡ Some fault) × Appends old new (report_in bytes)

  -- what was judged of a stream, by how it ended
  abbrev pub JudgesBy : List ℕ → Option (List ℕ) → Option (List ℕ) → Option (List ℕ) → Ledger
      → Result Bool RunFault → Type 0
  JudgesBy bytes left old new ledger (Ok refused) = JudgesAll bytes left old new refused ledger
  JudgesBy bytes left old new ledger (Err (Truncated have want)) = JudgesTo bytes old new (Truncated have want) × IsAtEnd left
  JudgesBy bytes left old new ledger (Err (TooLong size)) = JudgesTo bytes old new (TooLong size) × StopsAtLength bytes left
  JudgesBy bytes left old new ledger (Err Read) = IsUpToDate bytes left old new
  JudgesBy bytes left old new ledger (Err Write) = Unit {0}
  JudgesBy bytes left old new ledger (Err Peer) = Unit {0}
  JudgesBy bytes left old new ledger (Err (Collision kept given)) = StopsAtClash bytes left old new kept given
  JudgesBy bytes left old new ledger (Err Memory) = Unit {0}
  JudgesBy bytes left old new ledger (Err fault) = JudgesTo bytes old new fault

  -- however it ended, a prefix of the lines was written, and each in time
  pub record Judges (bytes : List ℕ) (left old new : Option (List ℕ)) (ledger : Ledger)
      (result : Result Bool RunFault) : Type 0 where
    pub front : WritesFront (report_in bytes) old new
    pub prompt : IsPrompt bytes left old new
    pub ends : JudgesBy bytes left old new ledger result

-- The same by some way to run the batches of each block, where the input tells its bytes.
pub record JudgesSomehow (processors : Processors) (accepts : Accepts) (lines : Lines) (first left old new : Option (List ℕ))
    (ledger : Ledger) (result : Result Bool RunFault) : Type 0 where
  pub ways : ℕ → Runs
  pub may : (place : ℕ) → RunsBy processors (ways place)
  pub so : IfSome first (λ bytes.
      Judges (record { accepts = accepts; ways = ways }) lines bytes left old new ledger result)

-- what was judged of a stream, with its lines on the output or on the notes
module _ (processors : Processors) (accepts : Accepts) (lines : Lines) (before after : Outside) where
  pub record JudgesFor (ledger : Ledger) (result : Result Bool RunFault) : Type 0 where
    pub judges : JudgesSomehow processors accepts lines before.input.tells after.input.tells (lines_side lines before).tells
        (lines_side lines after).tells ledger result
    pub aside : other_side lines after ≡ other_side lines before
    pub wrote : (written : List ℕ) × Appends (lines_side lines before).tells (lines_side lines after).tells written
    pub kind : IfErr result IsOfStream
    pub nodes : IfErr result TellsAlike
    pub input : IsErrOf result Read → Rose before.input.faults after.input.faults
    pub output : IsErrOf result Write → Rose (lines_side lines before).faults (lines_side lines after).faults
    pub later : (lines_side lines before).faults ≤ (lines_side lines after).faults
    pub peer : IsErrOf result Peer → SomeRose before.remotes after.remotes
