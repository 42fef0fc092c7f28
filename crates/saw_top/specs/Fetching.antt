-- What comes of a file.
use Rattle.std.specs.Prelude.{◌≡◌, ℕ, Bool, true, false, List, Option, Some, Result, Ok, Err, IfSome}
use Rattle.saw_faults.specs.Counts.{Rose}
use Rattle.saw_io.specs.Shelf.{Files}
use Rattle.saw_report.specs.declared.run_fault.RunFault.{RunFault}
use Rattle.saw_report.specs.declared.run_fault.RunFault.TheVariants.{Memory, FileMissing, FileTooLong, FileFailed, BadLine, BadList}
use Rattle.saw_top.specs.Outside.{End}

-- a fault that a file has
abbrev pub is_of_file : RunFault → Bool
is_of_file FileMissing = true
is_of_file FileTooLong = true
is_of_file (BadLine line) = true
is_of_file BadList = true
is_of_file fault = false

-- what came of it, by what a failed fetch says: what is right, the fault that a file has, a failed fetch, or want of memory
abbrev pub ComesBy : {A : Type 0} → Type 0 → Result A RunFault → Result A RunFault → Type 0
ComesBy failed right (Ok made) = right ≡ Ok made
ComesBy failed right (Err FileFailed) = failed
ComesBy failed right (Err Memory) = Unit {0}
ComesBy failed right (Err fault) = (right ≡ Err fault) × (is_of_file fault ≡ true)

module _ {A : Type 0} (of : Option (List ℕ) → Result A RunFault) where
  -- what came of the bytes of a file
  abbrev pub ReadsBy : List ℕ → Result A RunFault → Type 0
  ReadsBy bytes came = ComesBy ⊥ (of (Some bytes)) came

  -- what came of the file of a name; a file that is not told is some file
  pub record FetchesBy (name : List ℕ) (before after : End Files) (came : Result A RunFault) : Type 0 where
    pub file : Option (List ℕ)
    pub held : IfSome before.tells (λ told. told name ≡ file)
    pub by : ComesBy (Rose before.faults after.faults) (of file) came
