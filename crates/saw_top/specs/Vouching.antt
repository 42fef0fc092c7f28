-- Who vouches for signatures and what may be published, and how it was prepared.
use Rattle.std.specs.Prelude.{◌≡◌, ◌||◌, ℕ, true, List, is_some, Option, Some, option_map, Result, IfSome}
use Rattle.saw_faults.specs.Counts.{Rose}
use Rattle.saw_io.specs.Shelf.{Files}
use Rattle.saw_messages.specs.declared.batch.Batch.{Batch}
use Rattle.saw_publish.specs.Candidates.{Signing}
use Rattle.saw_report.specs.declared.run_fault.RunFault.{RunFault}
use Rattle.saw_verify.specs.declared.attest.AttestVerifier.{AttestVerifier}
use Rattle.saw_top.specs.Answers.{Prepared, batches_with, prepared_by, vouching_with}
use Rattle.saw_top.specs.Fetching.{ComesBy}
use Rattle.saw_top.specs.Outside.{End}
use Rattle.saw_top.specs.World.{Accepts}
use Rattle.saw_top.specs.declared.prepare.Known.{Known}
use Rattle.saw_top.specs.declared.vouching.Vouching.{Vouching}
use Rattle.saw_top.specs.declared.vouching.Vouching.TheVariants.{Given, Listed}

-- the verifier that was given, or a list
abbrev pub vouches : {V : Type 0} → (V → Accepts) → (AttestVerifier → Accepts) → Vouching V → Accepts
vouches accepts attests (Given verifier) = accepts verifier.now
vouches accepts attests (Listed list) = attests list

-- ---- a file that is known

-- its name and its bytes
abbrev pub File : Type 0
File = List ℕ × List ℕ

abbrev pub file_in : Known → File
file_in known = (known.name.now, known.bytes.now)

abbrev pub known_in : Option Known → Option File
known_in known = option_map file_in known

-- it is one of the files
abbrev pub IsOf : Option File → Files → Type 0
IsOf known files = IfSome known (λ file. files file.0 ≡ Some file.1)

-- and of those that are told
abbrev pub HoldsKnown : End Files → Option File → Type 0
HoldsKnown held known = IfSome held.tells (IsOf known)

-- the batches of the list of this name, if one is named; files that are not told are some files with the known one
pub record NamedBy (known : Option File) (name : Option (List ℕ)) (before after : End Files)
    (came : Result (List Batch) RunFault) : Type 0 where
  pub files : Files
  pub held : IfSome before.tells (λ told. files ≡ told)
  pub has : IsOf known files
  pub by : ComesBy ((is_some name ≡ true) × Rose before.faults after.faults) (batches_with files name) came

-- ---- both lists

-- what words and files prepare, by the names of both
abbrev pub prepared_in : Accepts → Signing → Option (List ℕ) → Option (List ℕ) → Files → Result Prepared RunFault
prepared_in accepts signing list batches files =
    prepared_by signing (batches_with files batches) (vouching_with accepts files list)

-- What came of it: what is prepared, or the fault of a list, a failed fetch, or want of memory. Files that are not told are
-- some files.
pub record Prepares (accepts : Accepts) (signing : Signing) (list batches : Option (List ℕ)) (before after : End Files)
    (came : Result Prepared RunFault) : Type 0 where
  pub files : Files
  pub held : IfSome before.tells (λ told. files ≡ told)
  pub by : ComesBy (((is_some list || is_some batches) ≡ true) × Rose before.faults after.faults)
      (prepared_in accepts signing list batches files) came
