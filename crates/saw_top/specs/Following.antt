-- What is told to those who follow the head of a stream.
use Rattle.std.specs.Prelude.{◌≡◌, ◌⊎◌, ◌==◌, ℕ, Bool, true, false, List, [], ◌∷◌, ◌++◌, take, Option, Some, None, Result, Ok, Err, IfSome}
use Rattle.std.specs.List.{flat_map, list_any}
use Rattle.saw_context.specs.Outcome.{Processors}
use Rattle.saw_faults.specs.Counts.{Rose}
use Rattle.saw_io.specs.Shelf.{Files}
use Rattle.saw_live.specs.Words.{Head, head}
use Rattle.saw_receipts.specs.Running.{Runs, RunsBy}
use Rattle.saw_receipts.specs.declared.block.BlockRecord.{BlockRecord}
use Rattle.saw_receipts.specs.declared.verdict.Verdict.{Verdict}
use Rattle.saw_receipts.specs.declared.verdict.Verdict.TheVariants.{Committed, Stored, Refused}
use Rattle.saw_report.specs.declared.run_fault.RunFault.{RunFault}
use Rattle.saw_report.specs.declared.run_fault.RunFault.TheVariants.{Read, Write, Peer, Collision, Memory, FileFailed}
use Rattle.saw_top.specs.Answers.{Prepared, prepared}
use Rattle.saw_top.specs.Command.{Assignment}
use Rattle.saw_top.specs.History.{Said}
use Rattle.saw_top.specs.Outside.{Outside}
use Rattle.saw_top.specs.Run.{run_of}
use Rattle.saw_top.specs.World.{Accepts, AreWays, Judging, Ways, World, judging_by, serially}

-- ---- the heads of a stream

-- a block that becomes the head
abbrev pub heads_by : Verdict → Option BlockRecord → List Head
heads_by Committed (Some block) = head block.id block.root ∷ []
heads_by Committed None = []
heads_by Stored block = []
heads_by (Refused fault) block = []

abbrev pub heads_in : Said → List Head
heads_in said = heads_by said.verdict said.block

abbrev pub heads_said : List Said → List Head
heads_said saids = flat_map heads_in saids

abbrev pub heads_of : Judging → List ℕ → List Head
heads_of judging bytes = heads_said (run_of judging bytes).said

-- of a stream behind words and files; where these have a fault there are none
abbrev pub heads_for : Ways → Result Prepared RunFault → List ℕ → List Head
heads_for ways (Ok ready) bytes = heads_of (judging_by ready.accepts ways) bytes
heads_for ways (Err fault) bytes = []

-- ---- who is told of them

-- one who follows has then been told of these, too
abbrev pub Follows : Bool → List Head → List Head → List Head → Type 0
Follows follows old new heads = follows ≡ true → new ≡ old ++ heads

-- faults that may come before all blocks were judged
abbrev pub cuts : RunFault → Bool
cuts Read = true
cuts Write = true
cuts Peer = true
cuts (Collision kept given) = true
cuts Memory = true
cuts FileFailed = true
cuts fault = false

-- all are told, or the first of them
abbrev pub HearsUpTo : Bool → (List Head → Type 0) → List Head → Type 0
HearsUpTo true heard heads = (n : ℕ) × heard (take n heads)
HearsUpTo false heard heads = heard heads

module _ {A : Type 0} where
  abbrev pub HearsBy : (List Head → Type 0) → List Head → Result A RunFault → Type 0
  HearsBy heard heads (Ok came) = heard heads
  HearsBy heard heads (Err fault) = HearsUpTo (cuts fault) heard heads

  -- what is told of a stream, by some way to run the batches of each block, where the input tells its bytes
  pub record HearsStream (processors : Processors) (accepts : Accepts) (heard : List Head → Type 0) (first : Option (List ℕ))
      (result : Result A RunFault) : Type 0 where
    pub ways : ℕ → Runs
    pub may : (place : ℕ) → RunsBy processors (ways place)
    pub so : IfSome first (λ bytes. HearsBy heard (heads_of (record { accepts = accepts; ways = ways }) bytes) result)

-- the same behind words and files; files that are not told are some files
pub record HearsJob (given : Files → World) (wish : Option Assignment) (held : Option Files) (heard : List Head → Type 0)
    (first : Option (List ℕ)) (came : Result ℕ RunFault) : Type 0 where
  pub files : Files
  pub are : IfSome held (λ told. files ≡ told)
  pub ways : Ways
  pub may : AreWays (given files).processors ways
  pub so : IfSome first (λ bytes. HearsBy heard (heads_for ways (prepared (given files) wish) bytes) came)

-- a run may have ended before all blocks were judged: by its status, or since a file could not be fetched
abbrev pub MayCut : Outside → Outside → ℕ → Type 0
MayCut before after status =
    (list_any (λ code. code == status) (4 ∷ 5 ∷ 6 ∷ 7 ∷ 9 ∷ []) ≡ true)
    ⊎ ((status ≡ 11) × Rose before.shelf.faults after.shelf.faults)

-- What is told of a run, whose batches are run one after another: the first of its heads, in order; and all of them,
-- unless it may have been cut.
abbrev pub HearsAll : (List Head → Type 0) → List Head → Outside → Outside → ℕ → Type 0
HearsAll heard heads before after status = ((n : ℕ) × heard (take n heads)) × (MayCut before after status ⊎ heard heads)

pub record IsHeard (given : Files → World) (wish : Option Assignment) (before after : Outside) (status : ℕ)
    (heard : List Head → Type 0) : Type 0 where
  pub files : Files
  pub are : IfSome before.shelf.tells (λ told. files ≡ told)
  pub heads : IfSome before.input.tells (λ bytes. let world = given files in
      HearsAll heard (heads_for (serially world.processors) (prepared world wish) bytes) before after status)
