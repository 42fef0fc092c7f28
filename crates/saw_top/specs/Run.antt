-- What a run answers to a stream.
use Rattle.std.specs.Prelude.{ℕ, Bool, List, [], ◌++◌, length, take, Option, Some, None, if◌then◌else◌}
use Rattle.saw_address.specs.Maps.{StateMap}
use Rattle.saw_receipts.specs.Heads.{head_of}
use Rattle.saw_journal.specs.Judgement.{Rules}
use Rattle.saw_report.specs.Lines.{head_line}
use Rattle.saw_report.specs.RunFaults.{fault_line, fault_status}
use Rattle.saw_report.specs.declared.run_fault.RunFault.{RunFault}
use Rattle.saw_report.specs.declared.run_fault.RunFault.TheVariants.{Blocks}
use Rattle.saw_top.specs.History.{History, history, map_behind, maps_of, records_of, some_refused, tried}
use Rattle.saw_top.specs.Listing.{batch_status, batch_text, events_status, events_text, listing, listing_status, proof_status, proof_text, receipts_status, receipts_text}
use Rattle.saw_top.specs.Publishing.{Waiting, candidate_status, candidate_text, losses_text, map_left, parent_at, publication_at}
use Rattle.saw_top.specs.Reports.{report}
use Rattle.saw_top.specs.Stream.{stream_of}
use Rattle.saw_top.specs.World.{Judging}
use Rattle.saw_top.specs.declared.task.Ending.{Ending}
use Rattle.saw_top.specs.declared.task.Ending.TheVariants.{Batch, Candidate, Events, Head, Entries, Proof, Receipts}
use Rattle.saw_top.specs.declared.task.Lines.{Lines}
use Rattle.saw_top.specs.declared.task.Lines.TheVariants.{All, Refused}
use Rattle.saw_top.specs.declared.task.Task.{Task}

-- what a run writes, and what it tells on the notes before the line of its fault, if it has one
pub record Answer : Type 0 where
  pub output : List ℕ
  pub noted : List ℕ
  pub fault : Option RunFault
  pub status : ℕ
  -- the maps that its blocks would leave, and the one that a candidate would
  pub tried : List (Option StateMap)
  pub made : Option StateMap
  -- of how many blocks it tells a verdict
  pub judged : ℕ
  -- of the first so many frames: their lines on output and notes, and the maps that the accepted ones leave
  pub output_for : ℕ → List ℕ
  pub noted_for : ℕ → List ℕ
  pub maps_for : ℕ → List StateMap

-- what is written, and a fault, without blocks
abbrev pub nothing_but : List ℕ → Option RunFault → ℕ → Answer
nothing_but text fault code = record {
  output = text;
  noted = [];
  fault = fault;
  status = code;
  tried = [];
  made = None;
  judged = 0;
  output_for = λ count. [];
  noted_for = λ count. [];
  maps_for = λ count. [];
}

-- nothing but a fault
abbrev pub faulty : RunFault → Answer
faulty fault = nothing_but [] (Some fault) (fault_status fault)

-- nothing but what is written, and a status
abbrev pub written : List ℕ → ℕ → Answer
written text code = nothing_but text None code

abbrev pub line_by : Option RunFault → List ℕ
line_by None = []
line_by (Some fault) = fault_line fault

-- all that is told on the notes
abbrev pub notes_of : Answer → List ℕ
notes_of answer = answer.noted ++ line_by answer.fault

-- what ends the judging of a stream early: that one more block finds no room, or what stands behind the frames
abbrev pub fault_in : History → Option RunFault → Option RunFault
fault_in run fault = if run.is_full then Some Blocks else fault

-- ---- the lines of blocks

-- on the output, and on the notes
abbrev pub written_by : Lines → History → List ℕ
written_by All run = report All 0 run.said
written_by Refused run = []

abbrev pub noted_by : Lines → History → List ℕ
noted_by All run = []
noted_by Refused run = report Refused 0 run.said

-- ---- the end

-- what is written and told at the end, the status, and the map that a candidate would leave
pub record AtEnd : Type 0 where
  pub output : List ℕ
  pub noted : List ℕ
  pub status : ℕ
  pub made : Option StateMap

-- whether a block was refused
abbrev pub status_by : Bool → ℕ
status_by refused = if refused then 1 else 0

-- an end that tells nothing on the notes
abbrev pub plain_end : List ℕ → ℕ → AtEnd
plain_end output status = record { output = output; noted = []; status = status; made = None }

-- the map behind the head
abbrev pub head_map : History → StateMap
head_map run = map_behind run.accepted (head_of (records_of run.accepted))

module _ (judging : Judging) where
  -- what frames come to
  abbrev pub history_of : List (List ℕ) → History
  history_of frames = history judging 0 frames []

  -- what a stream comes to
  abbrev pub run_of : List ℕ → History
  run_of bytes = history_of (stream_of bytes).frames

  abbrev pub fault_of : List ℕ → Option RunFault
  fault_of bytes = fault_in (run_of bytes) (stream_of bytes).fault

  -- what the first so many of its frames come to
  abbrev pub run_to : List ℕ → ℕ → History
  run_to bytes count = history_of (take count (stream_of bytes).frames)

-- ---- both

module _ (rules : Rules) (waiting : Waiting) where
  -- the head's line, the entries of its state, the receipts of its branch, where a batch is, a proof of its state, events
  -- of its branch, or a candidate behind it
  abbrev pub ending_of : Ending → History → AtEnd
  ending_of Head run = plain_end (head_line (head_of (records_of run.accepted))) (status_by (some_refused run.said))
  ending_of (Entries prefix) run = plain_end (listing prefix (head_map run)) (listing_status prefix (head_map run))
  ending_of Receipts run = plain_end (receipts_text (records_of run.accepted)) (receipts_status (records_of run.accepted))
  ending_of (Batch id) run = plain_end (batch_text id (records_of run.accepted)) (batch_status id (records_of run.accepted))
  ending_of (Proof at) run =
      plain_end (proof_text rules.hash at (head_of (records_of run.accepted)) (head_map run)) (proof_status (head_of (records_of run.accepted)))
  ending_of (Events known wish) run =
      plain_end (events_text known wish (records_of run.accepted)) (events_status known wish (records_of run.accepted))
  ending_of Candidate run = let made = publication_at rules waiting run.accepted in record {
    output = candidate_text rules.hash waiting.signing (parent_at (records_of run.accepted)) made;
    noted = losses_text made;
    status = candidate_status (some_refused run.said) made;
    made = map_left made;
  }

  -- unless there is a fault
  abbrev pub end_by : Ending → History → Option RunFault → AtEnd
  end_by ending run None = ending_of ending run
  end_by ending run (Some fault) = plain_end [] (fault_status fault)

-- the answer to a stream, by what is done with it; a candidate is made by rules of its own
abbrev pub task_answer : Judging → Rules → Waiting → Task → List ℕ → Answer
task_answer judging rules waiting task bytes =
    let run = run_of judging bytes in
    let fault = fault_of judging bytes in
    let end = end_by rules waiting task.ending run fault in record {
      output = written_by task.lines run ++ end.output;
      noted = noted_by task.lines run ++ end.noted;
      fault = fault;
      status = end.status;
      tried = tried judging 0 (stream_of bytes).frames [];
      made = end.made;
      judged = length run.said;
      output_for = λ count. written_by task.lines (run_to judging bytes count);
      noted_for = λ count. noted_by task.lines (run_to judging bytes count);
      maps_for = λ count. maps_of (run_to judging bytes count).accepted;
    }
