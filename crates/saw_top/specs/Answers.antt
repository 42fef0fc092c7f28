-- What a run answers to words, files and a stream.
use Rattle.std.specs.Prelude.{◌≡◌, ℕ, List, [], length, Option, Some, None, Result, Ok, Err, nat_lt, if◌then◌else◌}
use Rattle.saw_io.specs.Shelf.{Files}
use Rattle.saw_messages.specs.Batches.{batch_list}
use Rattle.saw_messages.specs.declared.batch.Batch.{Batch}
use Rattle.saw_messages.specs.declared.batch.BatchList.{BatchList}
use Rattle.saw_node.specs.Hashes.{first_half}
use Rattle.saw_proofs.specs.Checking.{IsChecked}
use Rattle.saw_proofs.specs.declared.fault.ProofFault.{ProofFault}
use Rattle.saw_proofs.specs.declared.found.Found.{Found}
use Rattle.saw_publish.specs.Candidates.{Signing}
use Rattle.saw_report.specs.declared.run_fault.RunFault.{RunFault}
use Rattle.saw_report.specs.declared.run_fault.RunFault.TheVariants.{Words, FileMissing, FileTooLong, BadLine, BadList}
use Rattle.saw_verify.specs.Lists.{attests, first_bad_line}
use Rattle.saw_wire.specs.declared.fault.MessageFault.{MessageFault}
use Rattle.saw_generate.specs.Streams.{stream}
use Rattle.saw_top.specs.Claims.{checked_line, checked_status, nodes_of}
use Rattle.saw_top.specs.Command.{Asked, Check, Claim, Generate, Judge, Assignment}
use Rattle.saw_top.specs.Limits.{max_batches, max_list}
use Rattle.saw_top.specs.Publishing.{Waiting}
use Rattle.saw_top.specs.Run.{Answer, faulty, task_answer, written}
use Rattle.saw_top.specs.World.{Accepts, Ways, World, judging_by, rules_with}
use Rattle.saw_top.specs.declared.task.Ending.TheVariants.{Head}
use Rattle.saw_top.specs.declared.task.Lines.TheVariants.{All}
use Rattle.saw_top.specs.declared.task.Task.{Task}

-- what words and files prepare: who vouches, and what may be published
pub record Prepared : Type 0 where
  pub accepts : Accepts
  pub waiting : Waiting

-- the triples of a list, unless a line is bad
abbrev pub attested : List ℕ → Option ℕ → Result Accepts RunFault
attested list (Some line) = Err (BadLine line)
attested list None = Ok (attests list)

-- those of the list that the file is, if there is one and it is not too long
abbrev pub listed : Option (List ℕ) → Result Accepts RunFault
listed None = Err FileMissing
listed (Some list) = if nat_lt max_list (length list) then Err FileTooLong else attested list (first_bad_line list)

-- who vouches: the triples of the list of this name, if one is named
abbrev pub vouching_with : Accepts → Files → Option (List ℕ) → Result Accepts RunFault
vouching_with accepts files None = Ok accepts
vouching_with accepts files (Some name) = listed (files name)

-- the batches that bytes say
abbrev pub batches_in : Result BatchList MessageFault → Result (List Batch) RunFault
batches_in (Ok list) = Ok list.batches
batches_in (Err fault) = Err BadList

-- those of the list that the file is, if there is one and it is not too long
abbrev pub batches_of : Option (List ℕ) → Result (List Batch) RunFault
batches_of None = Err FileMissing
batches_of (Some list) = if nat_lt max_batches (length list) then Err FileTooLong else batches_in (batch_list list)

-- the batches of the list of this name; without a name there are none
abbrev pub batches_with : Files → Option (List ℕ) → Result (List Batch) RunFault
batches_with files None = Ok []
batches_with files (Some name) = batches_of (files name)

-- what both prepare
abbrev pub ready_with : Accepts → Signing → List Batch → Prepared
ready_with accepts signing batches = record { accepts = accepts; waiting = record { signing = signing; batches = batches } }

abbrev pub ready_by : Signing → Accepts → Result (List Batch) RunFault → Result Prepared RunFault
ready_by signing accepts (Ok batches) = Ok (ready_with accepts signing batches)
ready_by signing accepts (Err fault) = Err fault

-- the fault of the attestation list comes before that of the batch list
abbrev pub prepared_by : Signing → Result (List Batch) RunFault → Result Accepts RunFault → Result Prepared RunFault
prepared_by signing batches (Ok accepts) = ready_by signing accepts batches
prepared_by signing batches (Err fault) = Err fault

-- what words and files prepare, or the fault that they have
abbrev pub prepared : World → Option Assignment → Result Prepared RunFault
prepared world None = Err Words
prepared world (Some wish) =
    prepared_by world.signing (batches_with world.files wish.batches) (vouching_with world.accepts world.files wish.list)

-- the answer to a claim: what its proof shows, or the fault of its file
abbrev pub IsAnswerTo : Claim → Result (List (List ℕ)) RunFault → Answer → Type 0
IsAnswerTo claim (Ok nodes) answer =
    (found : Result Found ProofFault) × IsChecked first_half claim.root claim.address nodes found
    × (answer ≡ written (checked_line found) (checked_status found))
IsAnswerTo claim (Err fault) answer = answer ≡ faulty fault

-- invalid arguments ask for nothing
abbrev pub task_by : Option Assignment → Task
task_by None = record { lines = All; ending = Head }
task_by (Some wish) = wish.task

module _ (ways : Ways) where
  -- the answer to a stream, by what is prepared
  abbrev pub answer_for : Task → Result Prepared RunFault → List ℕ → Answer
  answer_for task (Err fault) bytes = faulty fault
  answer_for task (Ok ready) bytes =
      task_answer (judging_by ready.accepts ways) (rules_with first_half ready.accepts ways.candidate) ready.waiting task bytes

  -- the answer to files and a stream, by what is done with its blocks
  abbrev pub answer_to : World → Option Assignment → List ℕ → Answer
  answer_to world wish bytes = answer_for (task_by wish) (prepared world wish) bytes

  -- What is an answer to what was asked. A new stream is written whatever files and stream are, and a proof is checked
  -- whatever the stream is.
  abbrev pub IsAnswerBy : World → Option Asked → List ℕ → Answer → Type 0
  IsAnswerBy world None bytes answer = answer ≡ answer_to world None bytes
  IsAnswerBy world (Some (Judge wish)) bytes answer = answer ≡ answer_to world (Some wish) bytes
  IsAnswerBy world (Some (Generate wish)) bytes answer = answer ≡ written (stream world.signing wish) 0
  IsAnswerBy world (Some (Check claim)) bytes answer = IsAnswerTo claim (nodes_of (world.files claim.proof)) answer
