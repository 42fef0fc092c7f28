-- A run that ended so gave its answer, unless memory was refused or a call failed.
use Rattle.std.proofs.Common.{◌≡◌, ◌⊎◌, inl, inr, ℕ, ◌≤◌, false, true, List, [], ◌++◌, Option, Some, None, Result, Ok, Err, refl, sym, ap, subst, ◌∙◌, arith}
use Rattle.std.specs.Prelude.{IfSome}
use Rattle.std.specs.Io.KnownBytes.{Appends}
use Rattle.std.proofs.KnownBytes.{Appends-nil, Appends-trans}
use Rattle.saw_faults.specs.Counts.{Rose}
use Rattle.saw_context.specs.Outcome.{Processors}
use Rattle.saw_io.specs.Shelf.{Files}
use Rattle.saw_report.specs.RunFaults.{is_long, fault_status}
use Rattle.saw_report.specs.declared.run_fault.RunFault.{RunFault}
use Rattle.saw_report.specs.declared.run_fault.RunFault.TheVariants.{Truncated, TooLong, Read, Write, Peer, Collision, Memory, FileMissing, FileTooLong, FileFailed, BadLine, BadList}
use Rattle.saw_generate.specs.Streams.{stream}
use Rattle.saw_top.specs.Answers.{IsAnswerBy, IsAnswerTo, Prepared, answer_to, prepared, task_by}
use Rattle.saw_top.specs.Claims.{ChecksBy, TellsProof, checked_line, checked_status, nodes_of}
use Rattle.saw_top.specs.Command.{Asked, Check, Claim, Generate, Judge, Assignment}
use Rattle.saw_top.specs.EndingFaults.{is_told}
use Rattle.saw_top.specs.Headline.{ChecksClaim, DoesAsked, DoesJob, EndsBy, IsWritten, HasCause, HasEnded, HasFault, IsAnswered, IsToldFor, IsWhole, WritesAnswerOf, TellsEnd, TellsFault, WhereRead, WritesBy}
use Rattle.saw_node.specs.Contents.{Node}
use Rattle.saw_top.specs.Outside.{End, Outside, SomeFailed, sides_of}
use Rattle.saw_top.specs.Fetching.{ComesBy}
use Rattle.saw_top.specs.Run.{Answer, faulty, line_by, written}
use Rattle.saw_top.specs.Telling.{IsTold}
use Rattle.saw_top.specs.World.{AreWays, Ways, World, serially}
use Rattle.saw_top.specs.declared.task.Task.{Task}
use Rattle.saw_top.proofs.OwnReasons.{HasOwnReasons, serial_may}
use Rattle.saw_top.proofs.Prepares.{all_files, files_in}

-- what follows from what is so of the bytes, where they are told
some_map : (first : Option (List ℕ)) (P Q : List ℕ → Type 0) → ((bytes : List ℕ) → P bytes → Q bytes) → IfSome first P → IfSome first Q
some_map None P Q step so = tt
some_map (Some bytes) P Q step so = step bytes so

module _ (answer : Answer) (bytes : List ℕ) (before after : Outside) (notes : End (List ℕ)) (status : ℕ) where
  -- before the line of its fault was told
  abbrev middle : Outside
  middle = record after { notes = notes }

  abbrev Answered : Type 0
  Answered = (status ≡ 7) ⊎ ((status ≡ 9) ⊎ (SomeFailed before after ⊎ IsWritten answer (sides_of before after) status))

  failed_so : SomeFailed before after → Answered
  failed_so failed = inr (inr (inl failed))

  abbrev Whole : ℕ → Type 0
  Whole = IsWhole answer bytes after.input.tells (sides_of before middle)

  gives : (fault : Option RunFault) (code : ℕ) → Whole code → answer.fault ≡ fault → status ≡ code → Appends notes.tells after.notes.tells (line_by fault)
      → IsWritten answer (sides_of before after) status
  gives fault code whole is same wrote = record {
    output = whole.output;
    notes = subst (λ (f : Option RunFault). Appends before.notes.tells after.notes.tells (answer.noted ++ line_by f)) (sym is)
        (Appends-trans before.notes.tells notes.tells after.notes.tells answer.noted (line_by fault) whole.notes wrote);
    code = same ∙ whole.code;
  }

  told : (fault : RunFault) → is_told fault ≡ true → is_long fault ≡ false → HasFault answer bytes after.input.tells (sides_of before middle) fault
      → TellsFault fault notes after.notes status → before.notes.faults ≤ notes.faults → Answered
  told fault own short shown (inl all) later = inr (inr (inr (gives (Some fault) (fault_status fault) shown.0 shown.1 all.0 all.1)))
  told fault own short shown (inr (n, less, cut, inl failed)) later = failed_so (inr (inr (inl (omega (arith, later, failed.1)))))
  told fault own short shown (inr (n, less, cut, inr code)) later = inl (rw (short, own) at code)

  nine : (kept given : Node) → TellsFault (Collision kept given) notes after.notes status → Answered
  nine kept given (inl all) = inr (inl all.0)
  nine kept given (inr (n, less, cut, inl failed)) = inr (inl failed.0)
  nine kept given (inr (n, less, cut, inr (inl code))) = inr (inl code)
  nine kept given (inr (n, less, cut, inr (inr code))) = inl code.0

  seven : TellsFault Memory notes after.notes status → status ≡ 7
  seven (inl all) = all.0
  seven (inr (n, less, cut, inl failed)) = failed.0
  seven (inr (n, less, cut, inr code)) = code

  wrote : Rose before.output.faults after.output.faults ⊎ Rose before.notes.faults notes.faults → notes.faults ≤ after.notes.faults → Answered
  wrote (inl rose) later = failed_so (inr (inl rose))
  wrote (inr rose) later = failed_so (inr (inr (inl (omega (arith, later, rose)))))

  by_fault : (processors : Processors) (task : Task) (ready : Result Prepared RunFault) (fault : RunFault)
      → EndsBy answer bytes after.input.tells (sides_of before middle) (Err fault) → HasCause processors task ready before middle (Err fault)
      → TellsFault fault notes after.notes status → before.notes.faults ≤ notes.faults → notes.faults ≤ after.notes.faults → Answered
  by_fault processors task ready (Truncated have want) ends cause tells first later = told (Truncated have want) refl refl ends.0 tells first
  by_fault processors task ready (TooLong size) ends cause tells first later = told (TooLong size) refl refl ends.0 tells first
  by_fault processors task ready Read ends cause tells first later = failed_so (inl cause.1)
  by_fault processors task ready Peer ends cause tells first later = failed_so (inr (inr (inr (inr cause.1))))
  by_fault processors task ready Write ends cause tells first later = wrote cause.1 later
  by_fault processors task ready (Collision kept given) ends cause tells first later = nine kept given tells
  by_fault processors task ready Memory ends cause tells first later = inl (seven tells)
  by_fault processors task ready FileFailed ends cause tells first later = failed_so (inr (inr (inr (inl cause.0))))
  by_fault processors task ready fault ends cause tells first later = told fault refl refl ends tells first

  by_end : (processors : Processors) (task : Task) (ready : Result Prepared RunFault) (came : Result ℕ RunFault)
      → EndsBy answer bytes after.input.tells (sides_of before middle) came → HasCause processors task ready before middle came
      → TellsEnd came notes after.notes status → before.notes.faults ≤ notes.faults → Answered
  by_end processors task ready (Ok code) ends cause tells first =
      inr (inr (inr (gives None code ends.0 ends.1 tells.0
      (subst (λ (e : End (List ℕ)). Appends notes.tells e.tells []) (sym tells.1) (Appends-nil notes.tells)))))
  by_end processors task ready (Err fault) ends cause tells first = by_fault processors task ready fault ends cause tells.0 first tells.1

-- ---- by what was asked

module _ (given : Files → World) (before after : Outside) (notes : End (List ℕ)) (status : ℕ) where
  abbrev noted : Outside
  noted = record after { notes = notes }

  -- an answer was given, unless memory was refused, two different nodes of one hash were met, or a call failed
  abbrev AnsweredBy : Ways → World → Option Asked → List ℕ → Type 0
  AnsweredBy ways world asked bytes = (status ≡ 7) ⊎ ((status ≡ 9)
      ⊎ (SomeFailed before after ⊎ ((answer : Answer) × IsAnswerBy ways world asked bytes answer × IsWritten answer (sides_of before after) status)))

  by_one : (ways : Ways) (world : World) (asked : Option Asked) (bytes : List ℕ) (answer : Answer) → IsAnswerBy ways world asked bytes answer
      → Answered answer bytes before after notes status → AnsweredBy ways world asked bytes
  by_one ways world asked bytes answer is (inl seven) = inl seven
  by_one ways world asked bytes answer is (inr (inl nine)) = inr (inl nine)
  by_one ways world asked bytes answer is (inr (inr (inl failed))) = inr (inr (inl failed))
  by_one ways world asked bytes answer is (inr (inr (inr wrote))) = inr (inr (inr (answer, is, wrote)))

  -- the answer, for the bytes and files that are told or some files: that of some ways to run batches, and where all is told
  -- that of batches that are run one after another
  pub record Holds (asked : Option Asked) : Type 0 where
    pub files : Files
    pub held : IfSome before.shelf.tells (λ told. files ≡ told)
    pub gives : WhereRead asked before.input.tells (λ bytes. let world = given files in IsToldFor world asked bytes
        → AnsweredBy (serially world.processors) world asked bytes)
    pub ways : Ways
    pub may : AreWays (given files).processors ways
    pub comes : WhereRead asked before.input.tells (AnsweredBy ways (given files) asked)

  module _ (wish : Option Assignment) (came : Result ℕ RunFault) (done : DoesJob given wish before noted came) (told : TellsEnd came notes after.notes status) where
    abbrev world : World
    world = given done.files

    abbrev ready : Result Prepared RunFault
    ready = prepared world wish

    -- what is shown of bytes is the answer
    as_answered : (ways : Ways) (bytes : List ℕ) → WritesAnswerOf world.processors (task_by wish) ready before noted came ways bytes
        → Answered (answer_to ways world wish bytes) bytes before after notes status
    as_answered ways bytes shows =
        by_end (answer_to ways world wish bytes) bytes before after notes status world.processors (task_by wish) ready came shows.0.ends done.does.cause told
        done.does.later

    module _ (asked : Option Asked) (is : (ways : Ways) (bytes : List ℕ) → IsAnswerBy ways world asked bytes (answer_to ways world wish bytes)) where
      answers : IfSome before.input.tells (AnsweredBy done.does.ways world asked)
      answers = some_map before.input.tells (WritesAnswerOf world.processors (task_by wish) ready before noted came done.does.ways)
          (AnsweredBy done.does.ways world asked)
          (λ bytes shows. by_one done.does.ways world asked bytes (answer_to done.does.ways world wish bytes) (is done.does.ways bytes)
          (as_answered done.does.ways bytes shows)) done.does.shows

      answers_told : IfSome before.input.tells (λ bytes. IsTold world.processors ready bytes → AnsweredBy (serially world.processors) world asked bytes)
      answers_told = some_map before.input.tells
          (λ bytes. IsTold world.processors ready bytes → WritesAnswerOf world.processors (task_by wish) ready before noted came (serially world.processors) bytes)
          (λ bytes. IsTold world.processors ready bytes → AnsweredBy (serially world.processors) world asked bytes)
          (λ bytes shows all. by_one (serially world.processors) world asked bytes (answer_to (serially world.processors) world wish bytes)
          (is (serially world.processors) bytes) (as_answered (serially world.processors) bytes (shows all))) done.does.told

  module _ (text bytes : List ℕ) (still : noted ≡ record before { output = after.output }) where
    -- the notes are as they were
    same_notes : notes ≡ before.notes
    same_notes = ap (λ (o : Outside). o.notes) still

    of_stream : (came : Result ℕ RunFault) → WritesBy text before.output after.output came → TellsEnd came notes after.notes status
        → Answered (written text 0) bytes before after notes status
    of_stream (Ok code) wrote told =
        let same : after.notes ≡ before.notes = told.1 ∙ same_notes in
        inr (inr (inr (record {
          output = wrote.1;
          notes = subst (λ (e : End (List ℕ)). Appends before.notes.tells e.tells []) (sym same) (Appends-nil before.notes.tells);
          code = told.0 ∙ wrote.0;
        })))
    of_stream (Err Write) wrote told = inr (inr (inl (inr (inl wrote.0))))
    of_stream (Err Memory) wrote told = inl (seven (written text 0) bytes before after notes status told.0)
    of_stream (Err fault) wrote told = absurd wrote

  module _ (claim : Claim) (came : Result ℕ RunFault) (done : ChecksClaim claim before noted came) (files : Files) (is : (given files).files claim.proof ≡ done.checks.file)
      (bytes : List ℕ) where
    claim_notes : notes ≡ before.notes
    claim_notes = ap (λ (o : Outside). o.notes) done.still

    abbrev ByClaim : Type 0
    ByClaim = AnsweredBy (serially (given files).processors) (given files) (Some (Check claim)) bytes

    -- the proof was read
    of_proof : (nodes : List (List ℕ)) → nodes_of ((given files).files claim.proof) ≡ Ok nodes → (came : Result ℕ RunFault)
        → TellsProof claim.root claim.address nodes before.output after.output came → TellsEnd came notes after.notes status → ByClaim
    of_proof nodes right came (inr (memory, still)) told =
        inl (seven (written [] 0) bytes before after notes status (let ended = subst (λ (c : Result ℕ RunFault). TellsEnd c notes after.notes status) memory told in ended.0))
    of_proof nodes right (Ok code) (inl (found, checked, wrote)) told =
        let same : after.notes ≡ before.notes = told.1 ∙ claim_notes in
        inr (inr (inr (
          written (checked_line found) (checked_status found),
          subst (λ (r : Result (List (List ℕ)) RunFault). IsAnswerTo claim r (written (checked_line found) (checked_status found))) (sym right) (found, checked, refl),
          record {
            output = wrote.1;
            notes = subst (λ (e : End (List ℕ)). Appends before.notes.tells e.tells []) (sym same) (Appends-nil before.notes.tells);
            code = told.0 ∙ wrote.0;
          },
        )))
    of_proof nodes right (Err Write) (inl (found, checked, wrote)) told = inr (inr (inl (inr (inl wrote.0))))
    of_proof nodes right (Err Memory) (inl (found, checked, wrote)) told = inl (seven (written [] 0) bytes before after notes status told.0)
    of_proof nodes right (Err fault) (inl (found, checked, wrote)) told = absurd wrote

    -- its file has a fault, which was told
    of_own : (fault : RunFault) → is_told fault ≡ true → is_long fault ≡ false → nodes_of ((given files).files claim.proof) ≡ Err fault → after.output ≡ before.output
        → TellsEnd (Err fault) notes after.notes status → ByClaim
    of_own fault own short right still tells =
        by_one (serially (given files).processors) (given files) (Some (Check claim)) bytes (faulty fault)
        (subst (λ (r : Result (List (List ℕ)) RunFault). IsAnswerTo claim r (faulty fault)) (sym right) refl)
        (told (faulty fault) bytes before after notes status fault own short (
          record {
            output = subst (λ (e : End (List ℕ)). Appends before.output.tells e.tells []) (sym still) (Appends-nil before.output.tells);
            notes = subst (λ (e : End (List ℕ)). Appends before.notes.tells e.tells []) (sym claim_notes) (Appends-nil before.notes.tells);
            code = refl;
          },
          refl,
        ) tells.0
        (subst (λ (e : End (List ℕ)). before.notes.faults ≤ e.faults) (sym claim_notes) (omega arith)))

    of_file : (fault : RunFault) → ComesBy (Rose before.shelf.faults after.shelf.faults) (nodes_of ((given files).files claim.proof)) (Err fault) → after.output ≡ before.output
        → TellsEnd (Err fault) notes after.notes status → ByClaim
    of_file FileFailed by still tells = inr (inr (inl (inr (inr (inr (inl by))))))
    of_file Memory by still tells = inl (seven (written [] 0) bytes before after notes status tells.0)
    of_file FileMissing by still tells = of_own FileMissing refl refl by.0 still tells
    of_file FileTooLong by still tells = of_own FileTooLong refl refl by.0 still tells
    of_file (BadLine line) by still tells = of_own (BadLine line) refl refl by.0 still tells
    of_file BadList by still tells = of_own BadList refl refl by.0 still tells
    of_file fault by still tells = absurd cc

    of_claim : TellsEnd came notes after.notes status → ByClaim
    of_claim told = by_file done.checks.by
      where
        by_file : ChecksBy claim.root claim.address claim.proof before.output after.output before.shelf after.shelf came (nodes_of done.checks.file) → ByClaim
        by_file (inl (nodes, right, tells)) = of_proof nodes (ap nodes_of is ∙ right) came tells told
        by_file (inr (fault, failed, still, by)) =
            of_file fault (subst (λ (file : Option (List ℕ)). ComesBy (Rose before.shelf.faults after.shelf.faults) (nodes_of file) (Err fault)) (sym is) by) still
            (subst (λ (c : Result ℕ RunFault). TellsEnd c notes after.notes status) failed told)

  by_asked : ((files : Files) → HasOwnReasons (given files).processors) → ((files : Files) → (given files).files ≡ files) → (asked : Option Asked) (came : Result ℕ RunFault)
      → DoesAsked given asked before noted came → TellsEnd came notes after.notes status → Holds asked
  by_asked own shelved None came done told = record {
    files = done.files;
    held = done.held;
    gives = answers_told None came done told None (λ ways bytes. refl);
    ways = done.does.ways;
    may = done.does.may;
    comes = answers None came done told None (λ ways bytes. refl);
  }
  by_asked own shelved (Some (Judge wish)) came done told = record {
    files = done.files;
    held = done.held;
    gives = answers_told (Some wish) came done told (Some (Judge wish)) (λ ways bytes. refl);
    ways = done.does.ways;
    may = done.does.may;
    comes = answers (Some wish) came done told (Some (Judge wish)) (λ ways bytes. refl);
  }
  by_asked own shelved (Some (Generate wish)) came done told =
      let at = files_in before.shelf.tells in
      let made = done at.0 in
      let text = stream (given at.0).signing wish in
      record {
        files = at.0;
        held = at.1;
        gives = λ bytes all. by_one (serially (given at.0).processors) (given at.0) (Some (Generate wish)) bytes (written text 0) refl
            (of_stream text bytes made.still came made.wrote told);
        ways = serially (given at.0).processors;
        may = serial_may (given at.0).processors (own at.0);
        comes = λ bytes. by_one (serially (given at.0).processors) (given at.0) (Some (Generate wish)) bytes (written text 0) refl
            (of_stream text bytes made.still came made.wrote told);
      }
  by_asked own shelved (Some (Check claim)) came done told =
      let at = all_files before.shelf.tells claim.proof done.checks.file done.checks.told in
      record {
        files = at.0;
        held = at.1;
        gives = λ bytes all. of_claim claim came done at.0 (ap (λ (all : Files). all claim.proof) (shelved at.0) ∙ at.2) bytes told;
        ways = serially (given at.0).processors;
        may = serial_may (given at.0).processors (own at.0);
        comes = λ bytes. of_claim claim came done at.0 (ap (λ (all : Files). all claim.proof) (shelved at.0) ∙ at.2) bytes told;
      }

pub answered : (given : Files → World) → ((files : Files) → HasOwnReasons (given files).processors) → ((files : Files) → (given files).files ≡ files) → (asked : Option Asked) (before after : Outside)
    (status : ℕ) → HasEnded given asked before after status → IsAnswered given asked before after status
answered given own shelved asked before after status ended =
    let holds = by_asked given before after ended.notes status own shelved asked ended.came ended.done ended.told in
    record {
      files = holds.files;
      held = holds.held;
      gives = holds.gives;
      ways = holds.ways;
      may = holds.may;
      comes = holds.comes;
    }
