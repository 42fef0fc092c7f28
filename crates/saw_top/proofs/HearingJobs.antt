-- What is told to one who follows, behind words and files.
use Rattle.std.proofs.Common.{◌≡◌, ℕ, Bool, true, false, List, [], Option, Some, None, Result, Ok, Err, sym, subst}
use Rattle.std.specs.Prelude.{◌||◌, IfSome, is_some}
use Rattle.std.proofs.lemmas.List.{append-nil}
use Rattle.saw_context.specs.Outcome.{Processors}
use Rattle.saw_faults.specs.Counts.{Rose}
use Rattle.saw_io.specs.Shelf.{Files}
use Rattle.saw_live.specs.Words.{Head}
use Rattle.saw_publish.specs.Candidates.{Signing}
use Rattle.saw_receipts.specs.Running.{Runs}
use Rattle.saw_report.specs.declared.run_fault.RunFault.{RunFault}
use Rattle.saw_report.specs.declared.run_fault.RunFault.TheVariants as runs
use Rattle.saw_top.specs.Answers.{Prepared, prepared}
use Rattle.saw_top.specs.Command.{Assignment}
use Rattle.saw_top.specs.Fetching.{ComesBy}
use Rattle.saw_top.specs.Following.{Follows, HearsBy, HearsJob, HearsStream, HearsUpTo, cuts, heads_for}
use Rattle.saw_top.specs.Outside.{End}
use Rattle.saw_top.specs.Vouching.{Prepares}
use Rattle.saw_top.specs.World.{Accepts, Ways, World, serially, world_with}
use Rattle.saw_top.proofs.OwnReasons.{HasOwnReasons, serial_may}
use Rattle.saw_top.proofs.Prepares.{files_in}

-- nothing was told
none_yet : (follows : Bool) (begin : List Head) → Follows follows begin begin []
none_yet follows begin = λ yes. sym (append-nil begin)

-- nothing was told before a fault that may come early
cut_early : (follows : Bool) (begin heads : List Head) (cut : Bool) → cut ≡ true → HearsUpTo cut (Follows follows begin begin) heads
cut_early follows begin heads true is = (0, none_yet follows begin)
cut_early follows begin heads false is = absurd cc

-- what holds of all bytes holds of those that are told
for_all : (first : Option (List ℕ)) (P : List ℕ → Type 0) → ((bytes : List ℕ) → P bytes) → IfSome first P
for_all None P all = tt
for_all (Some bytes) P all = all bytes

module _ (given : Files → World) (wish : Option Assignment) (held : Option Files) (first : Option (List ℕ)) (follows : Bool) (begin : List Head) where
  pub cut_job : ((files : Files) → HasOwnReasons (given files).processors) → (fault : RunFault) → cuts fault ≡ true
      → HearsJob given wish held (Follows follows begin begin) first (Err fault)
  cut_job own fault cut =
      let at = files_in held in
      let ways = serially (given at.0).processors in
      record {
        files = at.0;
        are = at.1;
        ways = ways;
        may = serial_may (given at.0).processors (own at.0);
        so = for_all first (λ bytes. HearsBy {A = ℕ} (Follows follows begin begin) (heads_for ways (prepared (given at.0) wish) bytes) (Err fault))
            (λ bytes. cut_early follows begin (heads_for ways (prepared (given at.0) wish) bytes) (cuts fault) cut);
      }

-- the words ask for nothing
pub unasked_heard : (given : Files → World) (held : Option Files) (first : Option (List ℕ)) → ((files : Files) → HasOwnReasons (given files).processors)
    → (follows : Bool) (begin : List Head) → HearsJob given None held (Follows follows begin begin) first (Err runs.Words)
unasked_heard given held first own follows begin =
    let at = files_in held in
    let ways = serially (given at.0).processors in
    record {
      files = at.0;
      are = at.1;
      ways = ways;
      may = serial_may (given at.0).processors (own at.0);
      so = for_all first (λ bytes. HearsBy {A = ℕ} (Follows follows begin begin) (heads_for ways (prepared (given at.0) None) bytes) (Err runs.Words))
          (λ bytes. none_yet follows begin);
    }

-- a fault of words and files
module _ (follows : Bool) (begin : List Head) (ways : Ways) (ready : Result Prepared RunFault) (bytes : List ℕ) where
  none_of : (fault : RunFault) → ready ≡ Err fault → Follows follows begin begin (heads_for ways ready bytes)
  none_of fault is = subst (λ (r : Result Prepared RunFault). Follows follows begin begin (heads_for ways r bytes)) (sym is) (none_yet follows begin)

  by_fault : (failed : Type 0) (fault : RunFault) → ComesBy failed ready (Err fault)
      → HearsBy {A = ℕ} (Follows follows begin begin) (heads_for ways ready bytes) (Err fault)
  by_fault failed runs.FileFailed by = (0, none_yet follows begin)
  by_fault failed runs.Memory by = (0, none_yet follows begin)
  by_fault failed runs.FileMissing by = none_of runs.FileMissing by.0
  by_fault failed runs.FileTooLong by = none_of runs.FileTooLong by.0
  by_fault failed (runs.BadLine line) by = none_of (runs.BadLine line) by.0
  by_fault failed runs.BadList by = none_of runs.BadList by.0
  by_fault failed fault by = absurd cc

-- the ways of a stream, and a candidate by what processors tell
abbrev ways_with : Processors → (ℕ → Runs) → Ways
ways_with processors blocks = record { blocks = blocks; candidate = (serially processors).candidate }

-- by what words and files prepare
module _ (accepts : Accepts) (signing : Signing) (processors : Processors) (own : HasOwnReasons processors) (wish : Assignment) (from to : End Files)
    (first : Option (List ℕ)) where
  abbrev given : Files → World
  given = world_with accepts signing processors

  -- they have a fault
  pub unprepared_heard : (follows : Bool) (begin : List Head) (fault : RunFault) → Prepares accepts signing wish.list wish.batches from to (Err fault)
      → HearsJob given (Some wish) from.tells (Follows follows begin begin) first (Err fault)
  unprepared_heard follows begin fault prepares =
      let ready = prepared (given prepares.files) (Some wish) in
      record {
        files = prepares.files;
        are = prepares.held;
        ways = serially processors;
        may = serial_may processors own;
        so = for_all first (λ bytes. HearsBy {A = ℕ} (Follows follows begin begin) (heads_for (serially processors) ready bytes) (Err fault))
            (λ bytes. by_fault follows begin (serially processors) ready bytes
            (((is_some wish.list || is_some wish.batches) ≡ true) × Rose from.faults to.faults) fault prepares.by);
      }

  module _ (made : Prepared) (prepares : Prepares accepts signing wish.list wish.batches from to (Ok made)) where
    -- memory was refused for the desks
    pub deskless_heard : (follows : Bool) (begin : List Head) → HearsJob given (Some wish) from.tells (Follows follows begin begin) first (Err runs.Memory)
    deskless_heard follows begin = record {
      files = prepares.files;
      are = prepares.held;
      ways = serially processors;
      may = serial_may processors own;
      so = for_all first (λ bytes. HearsBy {A = ℕ} (Follows follows begin begin)
          (heads_for (serially processors) (prepared (given prepares.files) (Some wish)) bytes) (Err runs.Memory))
          (λ bytes. (0, none_yet follows begin));
    }

    -- the stream was judged
    pub ready_heard : (heard : List Head → Type 0) (came : Result ℕ RunFault) → HearsStream processors made.accepts heard first came
        → HearsJob given (Some wish) from.tells heard first came
    ready_heard heard came told = record {
      files = prepares.files;
      are = prepares.held;
      ways = ways_with processors told.ways;
      may = record { blocks = told.may; candidate = (serial_may processors own).candidate };
      so = subst (λ (r : Result Prepared RunFault). IfSome first (λ bytes. HearsBy heard (heads_for (ways_with processors told.ways) r bytes) came))
          (sym prepares.by) told.so;
    }
