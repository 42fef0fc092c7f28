-- What a run does: it gives the answer, or a prefix of it and the fault that ended it.
use Rattle.std.specs.Prelude.{◌≡◌, ◌≢◌, ◌⊎◌, ◌↔◌, ◌<◌, ◌≤◌, ◌||◌, ℕ, Bool, true, false, List, [], ◌∷◌, ◌++◌, length, slice_get, take, is_some, Option, Some, None, Result, Ok, Err, IfSome, if◌then◌else◌}
use Rattle.std.specs.Io.KnownBytes.{Appends, Consumes, IsAtEnd}
use Rattle.saw_address.specs.Maps.{StateMap}
use Rattle.saw_context.specs.Outcome.{Processors}
use Rattle.saw_faults.specs.Counts.{Rose}
use Rattle.saw_io.specs.Frame.{IsPart}
use Rattle.saw_io.specs.Shelf.{Files}
use Rattle.saw_node.specs.Hashes.{first_half}
use Rattle.saw_node.specs.Contents.{Node}
use Rattle.saw_report.specs.RunFaults.{fault_line, is_long, fault_status}
use Rattle.saw_report.specs.declared.run_fault.RunFault.{RunFault}
use Rattle.saw_report.specs.declared.run_fault.RunFault.TheVariants.{Words, Truncated, TooLong, Read, Write, Peer, Collision, Memory, FileMissing, FileTooLong, FileFailed, BadLine, BadList}
use Rattle.saw_publish.specs.Candidates.{Signing}
use Rattle.saw_generate.specs.Streams.{stream}
use Rattle.saw_generate.specs.declared.wish.GenerateWish.{GenerateWish}
use Rattle.saw_top.specs.Answers.{IsAnswerBy, Prepared, answer_for, prepared, task_by}
use Rattle.saw_top.specs.Claims.{Checks}
use Rattle.saw_top.specs.Clashing.{AreAlike, ClashIn}
use Rattle.saw_top.specs.Command.{Asked, Check, Claim, Generate, Judge, Assignment}
use Rattle.saw_top.specs.EndingFaults.{is_told}
use Rattle.saw_top.specs.StreamJudging.{StopsAtLength, TakesNext}
use Rattle.saw_top.specs.Limits.{max_frames}
use Rattle.saw_top.specs.Outside.{AreLater, End, Outside, Sides, SomeFailed, SomeRose, WritesFront, sides_of}
use Rattle.saw_top.specs.Run.{Answer, notes_of}
use Rattle.saw_top.specs.Stream.{Reads}
use Rattle.saw_top.specs.Telling.{IsTold}
use Rattle.saw_top.specs.World.{AreWays, Ways, World, serially}
use Rattle.saw_top.specs.declared.task.Ending.{Ending}
use Rattle.saw_top.specs.declared.task.Ending.TheVariants.{Candidate, Head}
use Rattle.saw_top.specs.declared.task.Lines.{Lines}
use Rattle.saw_top.specs.declared.task.Lines.TheVariants.{All, Refused}
use Rattle.saw_top.specs.declared.task.Task.{Task}

-- ---- what was written of an answer

-- an answer was given: output, notes and status
pub record IsWritten (answer : Answer) (written : Sides) (status : ℕ) : Type 0 where
  pub output : Appends written.old written.new answer.output
  pub notes : Appends written.told_old written.told_new (notes_of answer)
  pub code : status ≡ answer.status

module _ (answer : Answer) (bytes : List ℕ) (left : Option (List ℕ)) (written : Sides) where
  -- all of it but the line of its fault
  pub record IsWhole (status : ℕ) : Type 0 where
    pub output : Appends written.old written.new answer.output
    pub notes : Appends written.told_old written.told_new answer.noted
    pub code : status ≡ answer.status

  -- What was read is whole frames that have a verdict, with their lines written, and at most what comes next. So
  -- nothing is read behind a block without room, or behind as many frames as may be.
  pub record LinesInTime : Type 0 where
    pub frames : List (List ℕ)
    pub rest : List ℕ
    pub reads : Reads frames bytes rest
    pub told : length frames ≤ answer.judged
    pub next : TakesNext (length frames) rest left
    pub more : List ℕ
    pub output : Appends written.old written.new (answer.output_for (length frames) ++ more)
    pub noted : List ℕ
    pub notes : Appends written.told_old written.told_new (answer.noted_for (length frames) ++ noted)

  -- What was read is whole frames, with their lines written and no more, and less than a frame.
  pub record LinesOfAllRead : Type 0 where
    pub frames : List (List ℕ)
    pub rest : List ℕ
    pub reads : Reads frames bytes rest
    pub told : length frames ≤ answer.judged
    pub few : length frames ≤ max_frames
    pub taken : List ℕ
    pub consumed : Consumes (Some rest) left taken
    pub part : IsPart taken
    pub output : Appends written.old written.new (answer.output_for (length frames))
    pub notes : Appends written.told_old written.told_new (answer.noted_for (length frames))

  -- Two different nodes of one hash were met: one of the map that the next block would leave, and one of that map, of
  -- the empty one, or of one that an earlier accepted block leaves. What was read is the frames that have their lines,
  -- and that block.
  pub record MeetsClash (kept given : Node) : Type 0 where
    pub frames : List (List ℕ)
    pub content : List ℕ
    pub rest : List ℕ
    pub reads : Reads (frames ++ content ∷ []) bytes rest
    pub left_is : left ≡ Some rest
    pub m : StateMap
    pub tried : slice_get answer.tried (length frames) ≡ Some (Some m)
    pub output : Appends written.old written.new (answer.output_for (length frames))
    pub notes : Appends written.told_old written.told_new (answer.noted_for (length frames))
    pub clash : ClashIn first_half m (answer.maps_for (length frames)) kept given

  -- The same of a candidate: one of the map that it would leave, and one of that map, of the empty one, or of one that
  -- an accepted block leaves. All blocks have their lines, and nothing else was written or told.
  pub record MeetsClashBehind (kept given : Node) : Type 0 where
    pub frames : List (List ℕ)
    pub reads : Reads frames bytes []
    pub ended : IsAtEnd left
    pub m : StateMap
    pub made : answer.made ≡ Some m
    pub output : Appends written.old written.new (answer.output_for (length frames))
    pub notes : Appends written.told_old written.told_new (answer.noted_for (length frames))
    pub clash : ClashIn first_half m (answer.maps_for (length frames)) kept given

  -- all of it, and its one fault
  abbrev pub HasFault : RunFault → Type 0
  HasFault fault = IsWhole (fault_status fault) × (answer.fault ≡ Some fault)

  -- what more is so, by how it ended: all of it and its fault, but where the outside failed, memory was refused or two
  -- different nodes of one hash were met
  abbrev pub EndsBy : Result ℕ RunFault → Type 0
  EndsBy (Ok status) = IsWhole status × (answer.fault ≡ None)
  EndsBy (Err (Truncated have want)) = HasFault (Truncated have want) × IsAtEnd left
  EndsBy (Err (TooLong size)) = HasFault (TooLong size) × StopsAtLength bytes left
  EndsBy (Err Read) = LinesOfAllRead
  EndsBy (Err Write) = Unit {0}
  EndsBy (Err Peer) = Unit {0}
  EndsBy (Err (Collision kept given)) = MeetsClash kept given ⊎ MeetsClashBehind kept given
  EndsBy (Err Memory) = Unit {0}
  EndsBy (Err FileFailed) = Unit {0}
  EndsBy (Err fault) = HasFault fault

  -- however a run came to its end, a prefix of both was written, and each line in time; and all of it, by how it did
  pub record WritesAnswer (came : Result ℕ RunFault) : Type 0 where
    pub output : WritesFront answer.output written.old written.new
    pub notes : WritesFront answer.noted written.told_old written.told_new
    pub prompt : LinesInTime
    pub ends : EndsBy came

-- Where the lines of blocks go to the notes, all that is to be told there was told before anything was written.
abbrev pub TellsFirst : Lines → List ℕ → Sides → Type 0
TellsFirst All noted written = Unit {0}
TellsFirst Refused noted written = (written.new ≡ written.old) ⊎ Appends written.told_old written.told_new noted

-- ---- what a run comes to: a status, or the fault that ended it

-- the statuses of a run that no fault ended
abbrev pub IsDone : Ending → ℕ → Type 0
IsDone Head status = (status ≡ 0) ⊎ (status ≡ 1)
IsDone Candidate status = (status ≡ 0) ⊎ (status ≡ 1)
IsDone listing status = (status ≡ 0) ⊎ (status ≡ 8)

module _ (processors : Processors) (task : Task) (ready : Result Prepared RunFault) (before after : Outside) where
  abbrev pub IsReady : Type 0
  IsReady = (made : Prepared) × (ready ≡ Ok made)

  -- only the shelf and the external processors were asked
  abbrev pub IsStill : Type 0
  IsStill = after ≡ record before { shelf = after.shelf; remotes = after.remotes }

  -- only the external processors were asked
  abbrev pub IsUntouched : Type 0
  IsUntouched = after ≡ record before { remotes = after.remotes }

  -- words and files have this fault, and nothing was read or written
  abbrev pub ComesEarly : RunFault → Type 0
  ComesEarly fault = (ready ≡ Err fault) × IsStill

  -- what it comes from, also where the input tells nothing: words and files are ready, unless it has their fault, or an
  -- external processor failed before the files were asked for
  abbrev pub HasCause : Result ℕ RunFault → Type 0
  HasCause (Ok status) = IsReady × IsDone task.ending status
  HasCause (Err Words) = (ready ≡ Err Words) × (after ≡ before)
  HasCause (Err FileMissing) = ComesEarly FileMissing
  HasCause (Err FileTooLong) = ComesEarly FileTooLong
  HasCause (Err (BadLine line)) = ComesEarly (BadLine line)
  HasCause (Err BadList) = ComesEarly BadList
  HasCause (Err FileFailed) = Rose before.shelf.faults after.shelf.faults × IsStill
  HasCause (Err Memory) = Unit {0}
  HasCause (Err Read) = IsReady × Rose before.input.faults after.input.faults
  HasCause (Err Write) =
      IsReady × (Rose before.output.faults after.output.faults ⊎ Rose before.notes.faults after.notes.faults)
  HasCause (Err Peer) = (IsReady ⊎ IsUntouched) × SomeRose before.remotes after.remotes
  HasCause (Err (Collision kept given)) = IsReady × AreAlike kept given
  HasCause (Err fault) = IsReady

  -- what is shown of the bytes of the stream, where batches are run so
  abbrev pub WritesAnswerOf : Result ℕ RunFault → Ways → List ℕ → Type 0
  WritesAnswerOf came ways bytes = let answer = answer_for ways task ready bytes in
      WritesAnswer answer bytes after.input.tells (sides_of before after) came
      × TellsFirst task.lines answer.noted (sides_of before after)

  -- What was done with words and files that prepare this. Behind the lines of blocks nothing but the fault's line is told,
  -- if there is one. Each block's batches were run in a way that may come of its processors; where all is told, there is
  -- one.
  pub record DoesTask (came : Result ℕ RunFault) : Type 0 where
    pub cause : HasCause came
    pub lines : List ℕ
    pub aside : (task.lines ≡ All) × (task.ending ≢ Candidate) → lines ≡ []
    pub noted : Appends before.notes.tells after.notes.tells lines
    pub later : before.notes.faults ≤ after.notes.faults
    pub ways : Ways
    pub may : AreWays processors ways
    pub shows : IfSome before.input.tells (WritesAnswerOf came ways)
    pub told : IfSome before.input.tells
        (λ bytes. IsTold processors ready bytes → WritesAnswerOf came (serially processors) bytes)

-- whether a file is named
abbrev pub names_file : Option Assignment → Bool
names_file None = false
names_file (Some wish) = is_some wish.list || is_some wish.batches

-- What was done of what was asked. Files that are not told are some files.
pub record DoesJob (given : Files → World) (wish : Option Assignment) (before after : Outside)
    (came : Result ℕ RunFault) : Type 0 where
  pub files : Files
  pub held : IfSome before.shelf.tells (λ told. files ≡ told)
  pub words : (came ≡ Err Words) ↔ (wish ≡ None)
  pub named : came ≡ Err FileFailed → names_file wish ≡ true
  pub later : AreLater before.remotes after.remotes
  pub does : DoesTask (given files).processors (task_by wish) (prepared (given files) wish) before after came

-- ---- a new stream

-- what was written of it, by how that ended: all of it, or a front, since writing failed or memory was refused
abbrev pub WritesBy : List ℕ → End (List ℕ) → End (List ℕ) → Result ℕ RunFault → Type 0
WritesBy text before after (Ok status) = (status ≡ 0) × Appends before.tells after.tells text
WritesBy text before after (Err Write) = Rose before.faults after.faults × WritesFront text before.tells after.tells
WritesBy text before after (Err Memory) = WritesFront text before.tells after.tells
WritesBy text before after (Err fault) = ⊥

-- It was written, and nothing but the output was touched.
pub record Generates (signing : Signing) (wish : GenerateWish) (before after : Outside) (came : Result ℕ RunFault) : Type 0 where
  pub still : after ≡ record before { output = after.output }
  pub wrote : WritesBy (stream signing wish) before.output after.output came

-- ---- a claim

-- A proof was checked, and nothing but the output and the shelf was touched.
pub record ChecksClaim (claim : Claim) (before after : Outside) (came : Result ℕ RunFault) : Type 0 where
  pub still : after ≡ record before { output = after.output; shelf = after.shelf }
  pub checks : Checks claim.root claim.address claim.proof before.output after.output before.shelf after.shelf came

-- ---- what was asked

-- what was done of what was asked; a new stream is the same whatever the files are
abbrev pub DoesAsked : (Files → World) → Option Asked → Outside → Outside → Result ℕ RunFault → Type 0
DoesAsked given None before after came = DoesJob given None before after came
DoesAsked given (Some (Judge wish)) before after came = DoesJob given (Some wish) before after came
DoesAsked given (Some (Generate wish)) before after came =
    (files : Files) → Generates (given files).signing wish before after came
DoesAsked given (Some (Check claim)) before after came = ChecksClaim claim before after came

-- What holds for the bytes that are unread, where they are told. For a new stream and a claim it holds whatever they
-- are.
abbrev pub WhereRead : Option Asked → Option (List ℕ) → (List ℕ → Type 0) → Type 0
WhereRead (Some (Generate wish)) told holds = (bytes : List ℕ) → holds bytes
WhereRead (Some (Check claim)) told holds = (bytes : List ℕ) → holds bytes
WhereRead _ told holds = IfSome told holds

-- What was asked is told where each transaction that it names goes to a deterministic processor. A new stream, a
-- claim and invalid arguments go to nobody.
abbrev pub IsToldFor : World → Option Asked → List ℕ → Type 0
IsToldFor world (Some (Judge wish)) bytes = IsTold world.processors (prepared world (Some wish)) bytes
IsToldFor world asked bytes = Unit {0}

-- whether external processors are asked at all
abbrev pub asks_external : Option Asked → Bool
asks_external (Some (Judge wish)) = true
asks_external asked = false

-- ---- what is told of it

-- the status where the notes find no memory for the line of a fault
abbrev pub untold_status : RunFault → ℕ
untold_status fault = if is_told fault then 7 else fault_status fault

-- The same by how much of the line was told. One of two nodes is made in memory: where there is none nothing of it is
-- told; once the line is made the status stays.
abbrev pub UntoldBy : Bool → RunFault → ℕ → ℕ → Type 0
UntoldBy true fault count status = (status ≡ fault_status fault) ⊎ ((status ≡ 7) × (count ≡ 0))
UntoldBy false fault count status = status ≡ untold_status fault

abbrev pub IsUntold : RunFault → ℕ → ℕ → Type 0
IsUntold fault count status = UntoldBy (is_long fault) fault count status

-- all of the fault's line was told, or less than it, since writing failed or memory was refused
abbrev pub TellsFault : RunFault → End (List ℕ) → End (List ℕ) → ℕ → Type 0
TellsFault fault before after status =
    ((status ≡ fault_status fault) × Appends before.tells after.tells (fault_line fault))
    ⊎ ((n : ℕ) × (n < length (fault_line fault)) × Appends before.tells after.tells (take n (fault_line fault))
    × (((status ≡ fault_status fault) × Rose before.faults after.faults) ⊎ IsUntold fault n status))

-- what was told behind the lines of blocks
abbrev pub TellsEnd : Result ℕ RunFault → End (List ℕ) → End (List ℕ) → ℕ → Type 0
TellsEnd (Ok code) before after status = (status ≡ code) × (after ≡ before)
TellsEnd (Err fault) before after status =
    TellsFault fault before after status × (before.faults ≤ after.faults)

-- ---- the two promises of a run

module _ (given : Files → World) (asked : Option Asked) (before after : Outside) (status : ℕ) where
  -- output, notes and status are the answer, where memory was not refused, no two different nodes of one hash were met
  -- and no call failed
  abbrev pub Answers : World → Ways → List ℕ → Type 0
  Answers world ways bytes = (status ≡ 7) ⊎ ((status ≡ 9)
      ⊎ (SomeFailed before after
      ⊎ ((answer : Answer) × IsAnswerBy ways world asked bytes answer × IsWritten answer (sides_of before after) status)))

  -- Where all is told, it is the answer of batches that are run one after another. Else it is that of some ways to run
  -- the batches of each block, and those that are published, of which each may come of their processors. It is so for
  -- some files, which are those that are told.
  pub record IsAnswered : Type 0 where
    pub files : Files
    pub held : IfSome before.shelf.tells (λ told. files ≡ told)
    pub gives : WhereRead asked before.input.tells (λ bytes. let world = given files in
        IsToldFor world asked bytes → Answers world (serially world.processors) bytes)
    pub ways : Ways
    pub may : AreWays (given files).processors ways
    pub comes : WhereRead asked before.input.tells (Answers (given files) ways)

  -- How it ended: what it came to, what was done up to there, and what the notes tell then.
  pub record HasEnded : Type 0 where
    pub came : Result ℕ RunFault
    pub notes : End (List ℕ)
    pub done : DoesAsked given asked before (record after { notes = notes }) came
    pub told : TellsEnd came notes after.notes status
