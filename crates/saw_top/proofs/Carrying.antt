-- What was done of what was asked, by what was prepared.
use Rattle.std.proofs.Common.{◌≡◌, ◌⊎◌, inl, inr, ℕ, true, false, List, [], ◌++◌, Option, Some, None, Result, Ok, Err, refl, sym, ap, subst, arith}
use Rattle.std.specs.Prelude.{◌||◌, IfSome, IsSome, is_some}
use Rattle.std.specs.Io.KnownBytes.{Appends}
use Rattle.std.proofs.KnownBytes.{Appends-nil, Consumes-nil}
use Rattle.saw_context.specs.Outcome.{Processors}
use Rattle.saw_faults.specs.Counts.{Rose}
use Rattle.saw_io.specs.Shelf.{Files}
use Rattle.saw_publish.specs.Candidates.{Signing}
use Rattle.saw_report.specs.declared.run_fault.RunFault.{RunFault}
use Rattle.saw_report.specs.declared.run_fault.RunFault.TheVariants as runs
use Rattle.saw_top.specs.Answers.{Prepared, answer_for, prepared}
use Rattle.saw_generate.specs.Streams.{stream}
use Rattle.saw_generate.specs.declared.wish.GenerateWish.{GenerateWish}
use Rattle.saw_top.specs.Command.{Asked, Check, Claim, Generate, Judge, Assignment}
use Rattle.saw_top.specs.Headline.{ChecksClaim, DoesAsked, DoesJob, DoesTask, EndsBy, LinesInTime, HasCause, HasFault, WritesAnswer, TellsFirst, WritesBy}
use Rattle.saw_top.specs.History.{ended, history}
use Rattle.saw_top.specs.Outside.{AreLater, End, Outside, SomeRose, sides, sides_of}
use Rattle.saw_top.specs.Run.{faulty, noted_by, written_by}
use Rattle.saw_top.specs.Fetching.{ComesBy}
use Rattle.saw_top.specs.Vouching.{Prepares, prepared_in}
use Rattle.saw_top.specs.World.{Accepts, Ways, World, serially, world_with}
use Rattle.saw_top.specs.declared.task.Lines.{Lines}
use Rattle.saw_top.specs.declared.task.Lines.TheVariants.{All, Refused}
use Rattle.saw_top.specs.declared.task.Task.{Task}
use Rattle.saw_top.proofs.Counting.{later_on, later_same, rose_since_later}
use Rattle.saw_top.proofs.Prepares.{files_in}
use Rattle.saw_top.proofs.Doing.{no_front}
use Rattle.saw_top.proofs.OneAnswer.{shows_told}
use Rattle.saw_top.proofs.OwnReasons.{HasOwnReasons, serial_may}

-- who signs, by the key's text and the signatures
abbrev pub signs : List ℕ → (List ℕ → List ℕ) → Signing
signs key signature = record { key = key; signature = signature }

-- ---- nothing was taken or written

module _ (ways : Ways) (bytes : List ℕ) (old told : Option (List ℕ)) where
  begun : (task : Task) (ready : Result Prepared RunFault) → LinesInTime (answer_for ways task ready bytes) bytes (Some bytes) (sides old old told told)
  unfolding history
  begun task ready = record {
    frames = [];
    rest = bytes;
    reads = refl;
    told = omega arith;
    next = inl (omega arith, inl ([], Consumes-nil (Some bytes), inl (omega arith)));
    more = [];
    output = subst (λ (l : List ℕ). Appends old old (l ++ [])) (sym (none_written ready)) (Appends-nil old);
    noted = [];
    notes = subst (λ (l : List ℕ). Appends told told (l ++ [])) (sym (none_noted ready)) (Appends-nil told);
  }
    where
      none_written : (ready : Result Prepared RunFault) → (answer_for ways task ready bytes).output_for 0 ≡ []
      none_written (Err fault) = refl
      none_written (Ok made) = elim task.lines as (λ lines. written_by lines (ended [] false) ≡ []) [ All ↦ refl | Refused ↦ refl ]

      none_noted : (ready : Result Prepared RunFault) → (answer_for ways task ready bytes).noted_for 0 ≡ []
      none_noted (Err fault) = refl
      none_noted (Ok made) = elim task.lines as (λ lines. noted_by lines (ended [] false) ≡ []) [ All ↦ refl | Refused ↦ refl ]

-- nothing but a fault was to be shown
whole : (fault : RunFault) (old told : Option (List ℕ)) (bytes : List ℕ) (left : Option (List ℕ))
    → HasFault (faulty fault) bytes left (sides old old told told) fault
whole fault old told bytes left = (record { output = Appends-nil old; notes = Appends-nil told; code = refl }, refl)

-- nothing was written
untouched : (lines : Lines) (old told : Option (List ℕ)) (noted : List ℕ) → TellsFirst lines noted (sides old old told told)
untouched All old told noted = tt
untouched Refused old told noted = inl refl

module _ (processors : Processors) (own : HasOwnReasons processors) (before : Outside) (held : End Files) (counts : List ℕ) where
  -- only the shelf and the external processors were asked
  abbrev still : Outside
  still = record before { shelf = held; remotes = counts }

  pub nothing : (task : Task) (ready : Result Prepared RunFault) (came : Result ℕ RunFault) → HasCause processors task ready before still came
      → ((bytes : List ℕ) (left : Option (List ℕ)) → EndsBy (answer_for (serially processors) task ready bytes) bytes left (sides_of before still) came)
      → DoesTask processors task ready before still came
  nothing task ready came cause ends = record {
    cause = cause;
    lines = [];
    aside = λ same. refl;
    noted = Appends-nil before.notes.tells;
    later =
        omega arith;
    ways = serially processors;
    may = serial_may processors own;
    shows = here before.input.tells;
    told = shows_told processors (serially processors) (serial_may processors own) task ready before still came before.input.tells (here before.input.tells);
  }
    where
      here : (first : Option (List ℕ)) → IfSome first (λ bytes. let answer = answer_for (serially processors) task ready bytes in
          WritesAnswer answer bytes first (sides_of before still) came × TellsFirst task.lines answer.noted (sides_of before still))
      here None = tt
      here (Some bytes) = (
        record {
          output = no_front (answer_for (serially processors) task ready bytes).output before.output.tells;
          notes = no_front (answer_for (serially processors) task ready bytes).noted before.notes.tells;
          prompt = begun (serially processors) bytes before.output.tells before.notes.tells task ready;
          ends = ends bytes (Some bytes);
        },
        untouched task.lines before.output.tells before.notes.tells (answer_for (serially processors) task ready bytes).noted,
      )

  -- words or a list have a fault
  faulted : (task : Task) (fault : RunFault) → HasCause processors task (Err fault) before still (Err fault)
      → ((bytes : List ℕ) (left : Option (List ℕ)) → EndsBy (faulty fault) bytes left (sides_of before still) (Err fault))
      → DoesTask processors task (Err fault) before still (Err fault)
  faulted task fault cause ends = nothing task (Err fault) (Err fault) cause ends

-- the words ask for nothing
pub unasked : (accepts : Accepts) (signing : Signing) (processors : Processors) → HasOwnReasons processors → (asked : Option Asked) (before : Outside) → asked ≡ None
    → DoesAsked (world_with accepts signing processors) asked before before (Err runs.Words)
unasked accepts signing processors own asked before none =
    let at = files_in before.shelf.tells in
    rw none (record {
      files = at.0;
      held = at.1;
      words = (λ same. refl, λ same. refl);
      named = λ same. absurd cc;
      later = later_same before.remotes;
      does = faulted processors own before before.shelf before.remotes _ runs.Words (refl, refl) (whole runs.Words _ _);
    })

-- memory was refused while the words were read
-- the file of a name
named : (held : Option Files) (files : Files) (name : List ℕ) → IfSome held (λ told. files ≡ told) → IfSome held (λ told. told name ≡ files name)
named None files name is = tt
named (Some told) files name is = ap (λ (all : Files). all name) (sym is)

pub unread : (accepts : Accepts) (signing : Signing) (processors : Processors) → HasOwnReasons processors → (asked : Option Asked) (before : Outside) → IsSome asked
    → DoesAsked (world_with accepts signing processors) asked before before (Err runs.Memory)
unread accepts signing processors own None before some = absurd cc
unread accepts signing processors own (Some (Judge wish)) before some =
    let at = files_in before.shelf.tells in
    record {
      files = at.0;
      held = at.1;
      words = (λ same. absurd cc, λ none. absurd cc);
      named = λ same. absurd cc;
      later = later_same before.remotes;
      does = nothing processors own before before.shelf before.remotes wish.task (prepared (world_with accepts signing processors at.0) (Some wish))
          (Err runs.Memory) tt (λ bytes left. tt);
    }
unread accepts signing processors own (Some (Generate wish)) before some =
    λ files. record { still = refl; wrote = no_front (stream signing wish) before.output.tells }
unread accepts signing processors own (Some (Check claim)) before some =
    let at = files_in before.shelf.tells in
    record {
      still = refl;
      checks = record {
        file = at.0 claim.proof;
        told = named before.shelf.tells at.0 claim.proof at.1;
        by = inr (runs.Memory, refl, refl, tt);
      };
    }

-- a claim was checked
pub claimed : (given : Files → World) (asked : Option Asked) (claim : Claim) (before after : Outside) (came : Result ℕ RunFault) → Some (Check claim) ≡ asked
    → ChecksClaim claim before after came → DoesAsked given asked before after came
claimed given asked claim before after came is checks = subst (λ (a : Option Asked). DoesAsked given a before after came) is checks

-- a job was done
pub judged : (given : Files → World) (asked : Option Asked) (wish : Assignment) (before after : Outside) (came : Result ℕ RunFault) → Some (Judge wish) ≡ asked
    → DoesJob given (Some wish) before after came → DoesAsked given asked before after came
judged given asked wish before after came is does = subst (λ (a : Option Asked). DoesAsked given a before after came) is does

-- a new stream was written
pub generated : (given : Files → World) (asked : Option Asked) (wish : GenerateWish) (before after : Outside) (came : Result ℕ RunFault)
    → Some (Generate wish) ≡ asked → after ≡ record before { output = after.output }
    → ((files : Files) → WritesBy (stream (given files).signing wish) before.output after.output came) → DoesAsked given asked before after came
generated given asked wish before after came is still wrote =
    subst (λ (a : Option Asked). DoesAsked given a before after came) is (λ files. record { still = still; wrote = wrote files })

module _ (accepts : Accepts) (signing : Signing) (processors : Processors) (own : HasOwnReasons processors) (workers : ℕ) (task : Task) (list batches : Option (List ℕ))
    (before : Outside) (held : End Files) where
  abbrev wish : Option Assignment
  wish = Some (record { workers = workers; task = task; list = list; batches = batches })

  abbrev asked : Outside
  asked = record before { shelf = held }

  abbrev ready_in : Files → Result Prepared RunFault
  ready_in files = prepared_in accepts signing list batches files

  -- why a fetch failed
  abbrev why : Type 0
  why = ((is_some list || is_some batches) ≡ true) × Rose before.shelf.faults held.faults

  abbrev Carried : RunFault → Type 0
  Carried fault = DoesJob (world_with accepts signing processors) wish before asked (Err fault)

  -- nothing was prepared
  pub unprepared : (fault : RunFault) → Prepares accepts signing list batches before.shelf held (Err fault) → Carried fault
  unprepared fault prepares = by_fault fault prepares.by
    where
      carried : (fault : RunFault) → (fault ≡ runs.Words → ⊥) → (fault ≡ runs.FileFailed → (is_some list || is_some batches) ≡ true)
          → DoesTask processors task (ready_in prepares.files) before asked (Err fault) → Carried fault
      carried fault other named does = record {
        files = prepares.files;
        held = prepares.held;
        words = (λ same. let e : fault ≡ runs.Words = cc in absurd (other e), λ none. absurd cc);
        named = λ same. let e : fault ≡ runs.FileFailed = cc in named e;
        later = later_same before.remotes;
        does = does;
      }

      of_file : (fault : RunFault) → (fault ≡ runs.Words → ⊥) → (fault ≡ runs.FileFailed → (is_some list || is_some batches) ≡ true)
          → ready_in prepares.files ≡ Err fault
          → HasCause processors task (Err fault) before asked (Err fault)
          → ((bytes : List ℕ) (left : Option (List ℕ)) → EndsBy (faulty fault) bytes left (sides_of before asked) (Err fault))
          → Carried fault
      of_file fault other named is cause ends = carried fault other named
          (subst (λ (r : Result Prepared RunFault). DoesTask processors task r before asked (Err fault)) (sym is)
          (faulted processors own before held before.remotes task fault cause ends))

      by_fault : (fault : RunFault) → ComesBy why (ready_in prepares.files) (Err fault) → Carried fault
      by_fault runs.FileMissing by = of_file runs.FileMissing (λ same. cc) (λ same. absurd cc) by.0 (refl, refl) (whole runs.FileMissing _ _)
      by_fault runs.FileTooLong by = of_file runs.FileTooLong (λ same. cc) (λ same. absurd cc) by.0 (refl, refl) (whole runs.FileTooLong _ _)
      by_fault (runs.BadLine line) by = of_file (runs.BadLine line) (λ same. cc) (λ same. absurd cc) by.0 (refl, refl) (whole (runs.BadLine line) _ _)
      by_fault runs.BadList by = of_file runs.BadList (λ same. cc) (λ same. absurd cc) by.0 (refl, refl) (whole runs.BadList _ _)
      by_fault runs.FileFailed by = carried runs.FileFailed (λ same. cc) (λ same. by.0)
          (nothing processors own before held before.remotes task (ready_in prepares.files) (Err runs.FileFailed) (by.1, refl) (λ bytes left. tt))
      by_fault runs.Memory by = carried runs.Memory (λ same. cc) (λ same. absurd cc)
          (nothing processors own before held before.remotes task (ready_in prepares.files) (Err runs.Memory) tt (λ bytes left. tt))
      by_fault fault by = absurd cc

  module _ (made : Prepared) (prepares : Prepares accepts signing list batches before.shelf held (Ok made)) where
    -- memory was refused for the desks
    pub deskless : Carried runs.Memory
    deskless = record {
      files = prepares.files;
      held = prepares.held;
      words = (λ same. absurd cc, λ none. absurd cc);
      named = λ same. absurd cc;
      later = later_same before.remotes;
      does = nothing processors own before held before.remotes task (ready_in prepares.files) (Err runs.Memory) tt (λ bytes left. tt);
    }

    -- by a shelf that nothing is asked of
    abbrev quiet : End Files
    quiet = record { tells = None; faults = 0 }

    abbrev Causes : Outside → Outside → Result ℕ RunFault → Type 0
    Causes from to came = HasCause processors task (Ok made) (record from { shelf = quiet }) (record to { shelf = quiet }) came

    -- the task was done; no fetch failed any more, since none was needed
    pub with_ready : (after : Outside) (came : Result ℕ RunFault) → after.shelf ≡ held → AreLater before.remotes after.remotes
        → ((from to : End Files) → DoesTask processors task (Ok made) (record before { shelf = from }) (record after { shelf = to }) came)
        → DoesJob (world_with accepts signing processors) wish before after came
    with_ready after came same later does = record {
      files = prepares.files;
      held = prepares.held;
      words = (λ is. absurd (never_words is), λ none. absurd cc);
      named = λ is. absurd (never_failed is);
      later = later;
      does = subst (λ (r : Result Prepared RunFault). DoesTask processors task r before after came) (sym prepares.by) (does before.shelf after.shelf);
    }
      where
        causes : Causes before after came
        causes = (does quiet quiet).cause

        never_words : came ≡ Err runs.Words → ⊥
        never_words is =
            let early : Causes before after (Err runs.Words) = subst (Causes before after) is causes in
            cc early.0

        never_failed : came ≡ Err runs.FileFailed → ⊥
        never_failed is =
            let failed : Causes before after (Err runs.FileFailed) = subst (Causes before after) is causes in
            omega (arith, failed.0)

-- ---- external processors

-- what was done with some of them, as done with all
module _ (processors : Processors) (task : Task) (ready : Result Prepared RunFault) (before after : Outside) (olds news all_olds all_news : List ℕ)
    (rose : SomeRose olds news → SomeRose all_olds all_news) where
  abbrev some_before : Outside
  some_before = record before { remotes = olds }

  abbrev some_after : Outside
  some_after = record after { remotes = news }

  abbrev all_before : Outside
  all_before = record before { remotes = all_olds }

  abbrev all_after : Outside
  all_after = record after { remotes = all_news }

  still_so : some_after ≡ record some_before { shelf = after.shelf; remotes = news } → all_after ≡ record all_before { shelf = after.shelf; remotes = all_news }
  still_so is = ap (λ (o : Outside). record o { remotes = all_news }) is

  untouched_so : some_after ≡ record some_before { remotes = news } → all_after ≡ record all_before { remotes = all_news }
  untouched_so is = ap (λ (o : Outside). record o { remotes = all_news }) is

  early_so : (Ready : Type 0) → Ready ⊎ (some_after ≡ record some_before { remotes = news }) → Ready ⊎ (all_after ≡ record all_before { remotes = all_news })
  early_so Ready (inl is) = inl is
  early_so Ready (inr is) = inr (untouched_so is)

  cause_so : (came : Result ℕ RunFault) → (came ≡ Err runs.Words → ⊥) → HasCause processors task ready some_before some_after came
      → HasCause processors task ready all_before all_after came
  cause_so (Ok status) never cause = cause
  cause_so (Err runs.Words) never cause = absurd (never refl)
  cause_so (Err runs.FileMissing) never cause = (cause.0, still_so cause.1)
  cause_so (Err runs.FileTooLong) never cause = (cause.0, still_so cause.1)
  cause_so (Err (runs.BadLine line)) never cause = (cause.0, still_so cause.1)
  cause_so (Err runs.BadList) never cause = (cause.0, still_so cause.1)
  cause_so (Err runs.FileFailed) never cause = (cause.0, still_so cause.1)
  cause_so (Err runs.Memory) never cause = tt
  cause_so (Err runs.Read) never cause = cause
  cause_so (Err runs.Write) never cause = cause
  cause_so (Err runs.Peer) never cause = (early_so _ cause.0, rose cause.1)
  cause_so (Err (runs.Collision kept given)) never cause = cause
  cause_so (Err fault) never cause = cause

  pub does_so : (came : Result ℕ RunFault) → (came ≡ Err runs.Words → ⊥) → DoesTask processors task ready some_before some_after came
      → DoesTask processors task ready all_before all_after came
  does_so came never does = record {
    cause = cause_so came never does.cause;
    lines = does.lines;
    aside = does.aside;
    noted = does.noted;
    later = does.later;
    ways = does.ways;
    may = does.may;
    shows = does.shows;
    told = does.told;
  }

-- where words and files are ready no words were wrong
pub never_wrong : (processors : Processors) (task : Task) (ready : Prepared) (before after : Outside) (came : Result ℕ RunFault)
    → DoesTask processors task (Ok ready) before after came → came ≡ Err runs.Words → ⊥
never_wrong processors task ready before after came does is =
    let cause : HasCause processors task (Ok ready) before after (Err runs.Words) =
    subst (HasCause processors task (Ok ready) before after) is does.cause in cc cause.0

-- a job that was done with some of them was done with all
pub job_so : (given : Files → World) (wish : Assignment) (before after : Outside) (olds news all_olds all_news : List ℕ) → (SomeRose olds news → SomeRose all_olds all_news)
    → AreLater all_olds all_news → (came : Result ℕ RunFault)
    → DoesJob given (Some wish) (record before { remotes = olds }) (record after { remotes = news }) came
    → DoesJob given (Some wish) (record before { remotes = all_olds }) (record after { remotes = all_news }) came
job_so given wish before after olds news all_olds all_news rose later came done = record {
  files = done.files;
  held = done.held;
  words = done.words;
  named = done.named;
  later = later;
  does = does_so (given done.files).processors wish.task (prepared (given done.files) (Some wish)) before after olds news all_olds all_news rose came
      (λ is. let none = done.words.0 is in cc none) done.does;
}

-- a job was done by processors that come to the same, and so many external processors that have failed as often
pub same_job : (accepts : Accepts) (signing : Signing) (wish : Assignment) (before after : Outside) (processors others : Processors) (olds all_olds news all_news : List ℕ)
    (came : Result ℕ RunFault) → processors ≡ others → olds ≡ all_olds → news ≡ all_news
    → DoesJob (world_with accepts signing processors) (Some wish) (record before { remotes = olds }) (record after { remotes = news }) came
    → DoesJob (world_with accepts signing others) (Some wish) (record before { remotes = all_olds }) (record after { remotes = all_news }) came
same_job accepts signing wish before after processors others olds all_olds news all_news came same same_olds same_news done =
    subst (λ (p : Processors). DoesJob (world_with accepts signing p) (Some wish) (record before { remotes = all_olds }) (record after { remotes = all_news }) came) same
    (subst (λ (l : List ℕ). DoesJob (world_with accepts signing processors) (Some wish) (record before { remotes = all_olds }) (record after { remotes = l }) came) same_news
    (subst (λ (l : List ℕ). DoesJob (world_with accepts signing processors) (Some wish) (record before { remotes = l }) (record after { remotes = news }) came) same_olds
    done))

module _ (given : Files → World) (wish : Assignment) (before : Outside) (counts : List ℕ) (later : AreLater before.remotes counts) where
  abbrev begun_at : Outside
  begun_at = record before { remotes = counts }

  -- one of them failed as it began, or memory was refused
  pub unbegun : ((files : Files) → HasOwnReasons (given files).processors) → (fault : RunFault) → (fault ≡ runs.Peer) ⊎ (fault ≡ runs.Memory) → (fault ≡ runs.Peer → SomeRose before.remotes counts)
      → DoesJob given (Some wish) before begun_at (Err fault)
  unbegun own fault (inl is) rose =
      let at = files_in before.shelf.tells in
      let world = given at.0 in
      rw is (record {
        files = at.0;
        held = at.1;
        words = (λ same. absurd cc, λ none. absurd cc);
        named = λ same. absurd cc;
        later = later;
        does = nothing world.processors (own at.0) before before.shelf counts wish.task (prepared world (Some wish)) (Err runs.Peer) (inr refl, rose is)
            (λ bytes left. tt);
      })
  unbegun own fault (inr is) rose =
      let at = files_in before.shelf.tells in
      let world = given at.0 in
      rw is (record {
        files = at.0;
        held = at.1;
        words = (λ same. absurd cc, λ none. absurd cc);
        named = λ same. absurd cc;
        later = later;
        does = nothing world.processors (own at.0) before before.shelf counts wish.task (prepared world (Some wish)) (Err runs.Memory) tt (λ bytes left. tt);
      })

  -- what was done behind their beginning
  module _ (after : Outside) (came : Result ℕ RunFault) (done : DoesJob given (Some wish) begun_at after came) where
    abbrev CausesFrom : Outside → Result ℕ RunFault → Type 0
    CausesFrom from came = let world = given done.files in HasCause world.processors wish.task (prepared world (Some wish)) from after came

    cause_since : (came : Result ℕ RunFault) → (came ≡ Err runs.Words → ⊥) → CausesFrom begun_at came → CausesFrom before came
    cause_since (Ok status) other cause = cause
    cause_since (Err runs.Words) other cause = absurd (other refl)
    cause_since (Err runs.FileMissing) other cause = cause
    cause_since (Err runs.FileTooLong) other cause = cause
    cause_since (Err (runs.BadLine line)) other cause = cause
    cause_since (Err runs.BadList) other cause = cause
    cause_since (Err runs.FileFailed) other cause = cause
    cause_since (Err runs.Memory) other cause = cause
    cause_since (Err runs.Read) other cause = cause
    cause_since (Err runs.Write) other cause = cause
    cause_since (Err runs.Peer) other cause = (cause.0, rose_since_later before.remotes counts after.remotes later cause.1)
    cause_since (Err (runs.Collision kept given)) other cause = cause
    cause_since (Err fault) other cause = cause

    never_words : came ≡ Err runs.Words → ⊥
    never_words is = let none = done.words.0 is in cc none

    pub since_begun : DoesJob given (Some wish) before after came
    since_begun =
        let does = done.does in
        record {
          files = done.files;
          held = done.held;
          words = done.words;
          named = done.named;
          later = later_on before.remotes counts after.remotes later done.later;
          does = record {
            cause = cause_since came never_words does.cause;
            lines = does.lines;
            aside = does.aside;
            noted = does.noted;
            later = does.later;
            ways = does.ways;
            may = does.may;
            shows = does.shows;
            told = does.told;
          };
        }
