-- What came of the bytes of a file that was fetched.
use Rattle.std.proofs.Common.{◌≡◌, ℕ, zero, suc, ◌<◌, ◌≤◌, true, false, List, [], ◌∷◌, length, Option, Some, None, Result, Ok, Err}
use Rattle.std.proofs.Common.{refl, sym, ap, subst, ◌∙◌, arith}
use Rattle.std.specs.Prelude.{IfOk, IfSome, nat_lt}
use Rattle.std.specs.Global.{Vec}
use Rattle.std.proofs.lemmas.Bool.Decides.{nat_tests}
use Rattle.saw_faults.specs.Counts.{Rose}
use Rattle.saw_io.specs.Shelf.{Files, FileGives, Fetches}
use Rattle.saw_io.specs.declared.fault.ShelfFault.{ShelfFault}
use Rattle.saw_io.specs.declared.fault.ShelfFault.TheVariants as shelves
use Rattle.saw_report.specs.RunFaults.{fault_of_shelf}
use Rattle.saw_report.specs.declared.run_fault.RunFault.{RunFault}
use Rattle.saw_report.specs.declared.run_fault.RunFault.TheVariants as runs
use Rattle.saw_top.specs.Fetching.{ComesBy, FetchesBy, ReadsBy}
use Rattle.saw_top.specs.Outside.{End}

-- a fault of a part is that of the whole
pub passed : {A B : Type 0} (f : Result A RunFault → Result B RunFault) → ((fault : RunFault) → f (Err fault) ≡ Err fault)
    → (failed other : Type 0) → (failed → other) → (right : Result A RunFault) (fault : RunFault)
    → ComesBy failed right (Err fault) → ComesBy other (f right) (Err fault)
passed f passes failed other may right runs.FileFailed by = may by
passed f passes failed other may right runs.Memory by = tt
passed f passes failed other may right runs.FileMissing by = (ap f by.0 ∙ passes runs.FileMissing, refl)
passed f passes failed other may right runs.FileTooLong by = (ap f by.0 ∙ passes runs.FileTooLong, refl)
passed f passes failed other may right (runs.BadLine line) by = (ap f by.0 ∙ passes (runs.BadLine line), refl)
passed f passes failed other may right runs.BadList by = (ap f by.0 ∙ passes runs.BadList, refl)
passed f passes failed other may right fault by = absurd cc

-- where no fetch fails, whatever a failed one says
pub widened : {A : Type 0} (other : Type 0) (right came : Result A RunFault) → ComesBy ⊥ right came → ComesBy other right came
widened other right (Ok made) by = by
widened other right (Err fault) by = passed (λ r. r) (λ fault. refl) ⊥ other (λ none. absurd none) right fault by

-- a list of any length
some_list : (n : ℕ) → (list : List ℕ) × (length list ≡ n)
some_list zero = ([], refl)
some_list (suc n) = (0 ∷ (some_list n).0, ap suc (some_list n).1)

-- some file of which a fetch answers so
some_file : (max : ℕ) (result : Result (Vec ℕ) ShelfFault) → IfOk result (λ list. length list.items ≤ max)
    → (file : Option (List ℕ)) × FileGives max file result
some_file max (Ok list) within = (Some list.items, (refl, within))
some_file max (Err shelves.Missing) within = (None, refl)
some_file max (Err shelves.TooLong) within = (Some (some_list (suc max)).0, ((some_list (suc max)).0, refl, rw (some_list (suc max)).1 (omega arith)))
some_file max (Err shelves.Failed) within = (None, tt)
some_file max (Err shelves.OutOfMemory) within = (Some [], ([], refl, omega arith))

-- the file of a name, where it is told, or else some file
pub file_at : (result : Result (Vec ℕ) ShelfFault) (held : Option Files) (name : List ℕ) (max : ℕ) → IfOk result (λ list. length list.items ≤ max)
    → Fetches held name max result
    → (file : Option (List ℕ)) × IfSome held (λ told. told name ≡ file) × FileGives max file result
file_at result None name max within fetched = let file = some_file max result within in (file.0, tt, file.1)
file_at result (Some files) name max within fetched = (files name, refl, fetched)

pub not_over : (n max : ℕ) → n ≤ max → nat_lt max n ≡ false
not_over n max fits = grind (arith, nat_tests)

pub over : (n max : ℕ) → max < n → nat_lt max n ≡ true
over n max more = grind (arith, nat_tests)

-- a fetch had a fault
pub unfetched : {A : Type 0} (of : Option (List ℕ) → Result A RunFault) (max : ℕ) → of None ≡ Err runs.FileMissing
    → ((list : List ℕ) → max < length list → of (Some list) ≡ Err runs.FileTooLong)
    → (failed : Type 0) (e : ShelfFault) (file : Option (List ℕ)) → FileGives max file (Err e) → (e ≡ shelves.Failed → failed)
    → ComesBy failed (of file) (Err (fault_of_shelf e))
unfetched of max missing long failed shelves.Missing file gives cause = (ap of gives ∙ missing, refl)
unfetched of max missing long failed shelves.TooLong file gives cause = (ap of gives.1 ∙ long gives.0 gives.2, refl)
unfetched of max missing long failed shelves.Failed file gives cause = cause refl
unfetched of max missing long failed shelves.OutOfMemory file gives cause = tt

-- ---- what was made of them

module _ {A : Type 0} (of : Option (List ℕ) → Result A RunFault) (max : ℕ) (name : List ℕ) (before after : End Files) where
  pub no_file : of None ≡ Err runs.FileMissing → ((list : List ℕ) → max < length list → of (Some list) ≡ Err runs.FileTooLong)
      → (e : ShelfFault) → Fetches before.tells name max (Err e) → (e ≡ shelves.Failed → Rose before.faults after.faults)
      → FetchesBy of name before after (Err (fault_of_shelf e))
  no_file missing long e fetched failed =
      let at = file_at (Err e) before.tells name max tt fetched in
      record {
        file = at.0;
        held = at.1;
        by = unfetched of max missing long (Rose before.faults after.faults) e at.0 at.2 failed;
      }

  pub file_read : (list : Vec ℕ) → Fetches before.tells name max (Ok list) → length list.items ≤ max → (came : Result A RunFault)
      → ReadsBy of list.items came → FetchesBy of name before after came
  file_read list fetched within came reads =
      let at = file_at (Ok list) before.tells name max within fetched in
      record {
        file = at.0;
        held = at.1;
        by = widened (Rose before.faults after.faults) (of at.0) came
            (subst (λ (file : Option (List ℕ)). ComesBy ⊥ (of file) came) (sym at.2.0) reads);
      }
