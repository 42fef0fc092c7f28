-- Who vouches and what may be published, by what the shelf gave.
use Rattle.std.proofs.Common.{◌≡◌, ℕ, ◌<◌, ◌≤◌, true, false, List, [], length, cond, Option, Some, None, Result, Ok, Err}
use Rattle.std.proofs.Common.{refl, sym, ap, subst, ◌∙◌, arith}
use Rattle.std.specs.Prelude.{IfSome, is_some, option_map, unwrap_or}
use Rattle.std.specs.Global.{Vec}
use Rattle.std.specs.Str.{bytes_eq}
use Rattle.std.proofs.lemmas.Slice.Eq.{bytes_eq-Decides}
use Rattle.std.proofs.Math.Path.{fun_ext}
use Rattle.saw_faults.specs.Counts.{Rose}
use Rattle.saw_io.specs.Shelf.{Files, FileGives, Fetches}
use Rattle.saw_io.specs.declared.fault.ShelfFault.{ShelfFault}
use Rattle.saw_io.specs.declared.fault.ShelfFault.TheVariants as shelves
use Rattle.saw_messages.specs.declared.batch.Batch.{Batch}
use Rattle.saw_publish.specs.Candidates.{Signing}
use Rattle.saw_report.specs.RunFaults.{fault_of_list, fault_of_shelf}
use Rattle.saw_report.specs.declared.run_fault.RunFault.{RunFault}
use Rattle.saw_report.specs.declared.run_fault.RunFault.TheVariants as runs
use Rattle.saw_verify.specs.Lists.{attests, first_bad_line}
use Rattle.saw_verify.specs.declared.attest.AttestFault.{AttestFault}
use Rattle.saw_verify.specs.declared.attest.AttestFault.TheVariants as lists
use Rattle.saw_top.specs.Answers.{attested, batches_of, batches_with, listed, prepared_by, ready_by, ready_with}
use Rattle.saw_top.specs.Limits.{max_batches, max_list}
use Rattle.saw_top.specs.Outside.{End}
use Rattle.saw_top.specs.Fetching.{ComesBy, FetchesBy, ReadsBy}
use Rattle.saw_top.specs.Vouching.{File, HoldsKnown, IsOf, NamedBy, Prepares}
use Rattle.saw_top.specs.World.{Accepts}
use Rattle.saw_top.proofs.Fetched.{file_at, not_over, over, passed, unfetched, widened}

-- ---- files that are told, or some

-- all of them
pub all_files : (held : Option Files) (name : List ℕ) (file : Option (List ℕ)) → IfSome held (λ told. told name ≡ file)
    → (files : Files) × IfSome held (λ told. files ≡ told) × (files name ≡ file)
all_files None name file is = (λ any. file, tt, refl)
all_files (Some files) name file is = (files, refl, is)

pub files_in : (held : Option Files) → (files : Files) × IfSome held (λ told. files ≡ told)
files_in None = (λ any. None, tt)
files_in (Some files) = (files, refl)

-- the one that is known among others
abbrev known_among : Option File → Files → Files
known_among None files = files
known_among (Some file) files = λ name. cond (bytes_eq name file.0) (Some file.1) (files name)

has_known : (known : Option File) (files : Files) → IsOf known (known_among known files)
has_known None files = tt
has_known (Some file) files = rw ((bytes_eq-Decides file.0 file.0).1 refl) refl

has_others : (known : Option File) (files : Files) (name : List ℕ) → IfSome known (λ file. bytes_eq name file.0 ≡ false)
    → known_among known files name ≡ files name
has_others None files name other = refl
has_others (Some file) files name other = rw other refl

-- files with the known one, and with another one
files_with : (held : Option Files) (known : Option File) → IfSome held (IsOf known) → (name : List ℕ) (file : Option (List ℕ))
    → IfSome held (λ told. told name ≡ file) → IfSome known (λ file. bytes_eq name file.0 ≡ false)
    → (files : Files) × IfSome held (λ told. files ≡ told) × IsOf known files × (files name ≡ file)
files_with None known has name file is other = (known_among known (λ any. file), tt, has_known known (λ any. file), has_others known (λ any. file) name other)
files_with (Some told) known has name file is other = (told, refl, has, is)

files_of : (held : Option Files) (known : Option File) → IfSome held (IsOf known)
    → (files : Files) × IfSome held (λ told. files ≡ told) × IsOf known files
files_of None known has = (known_among known (λ any. None), tt, has_known known (λ any. None))
files_of (Some told) known has = (told, refl, has)

-- ---- what the file of a list prepares

list_is : (file : Option (List ℕ)) (list : List ℕ) → file ≡ Some list → length list ≤ max_list → listed file ≡ attested list (first_bad_line list)
list_is file list is within = ap listed is ∙ fits
  where
    fits : listed (Some list) ≡ attested list (first_bad_line list)
    fits = rw (not_over (length list) max_list within) refl

long_list : (list : List ℕ) → max_list < length list → listed (Some list) ≡ Err runs.FileTooLong
long_list list more = rw (over (length list) max_list more) refl

pub long_batches : (list : List ℕ) → max_batches < length list → batches_of (Some list) ≡ Err runs.FileTooLong
long_batches list more = rw (over (length list) max_batches more) refl

-- two verifiers that answer alike are one
same_verifier : (accepts others : Accepts) → ((key message signature : List ℕ) → accepts key message signature ≡ others key message signature)
    → accepts ≡ others
same_verifier accepts others same = fun_ext (λ key. fun_ext (λ message. fun_ext (λ signature. same key message signature)))

-- ---- the batches

module _ (known : Option File) (before after : End Files) (has : HoldsKnown before known) where
  -- no list is named
  pub unnamed : NamedBy known None before before (Ok [])
  unnamed = let at = files_of before.tells known has in record { files = at.0; held = at.1; has = at.2; by = refl }

  -- another one than the known file
  pub named_other : (name : List ℕ) (came : Result (List Batch) RunFault) → IfSome known (λ file. bytes_eq name file.0 ≡ false)
      → FetchesBy batches_of name before after came → NamedBy known (Some name) before after came
  named_other name came other fetches =
      let at = files_with before.tells known has name fetches.file fetches.held other in
      record {
        files = at.0;
        held = at.1;
        has = at.2;
        by = by_came _ came (subst (λ (file : Option (List ℕ)). ComesBy (Rose before.faults after.faults) (batches_of file) came) (sym at.3) fetches.by);
      }
    where
      by_came : (right came : Result (List Batch) RunFault) → ComesBy (Rose before.faults after.faults) right came
          → ComesBy ((true ≡ true) × Rose before.faults after.faults) right came
      by_came right (Ok made) by = by
      by_came right (Err fault) by = passed (λ r. r) (λ fault. refl) _ _ (λ rose. (refl, rose)) right fault by

-- the known file
pub named_known : (file : File) (before : End Files) → HoldsKnown before (Some file) → (name : List ℕ) → file.0 ≡ name
    → (came : Result (List Batch) RunFault) → ReadsBy batches_of file.1 came → NamedBy (Some file) (Some name) before before came
named_known file before has name same came reads =
    let at = files_of before.tells (Some file) has in
    record {
      files = at.0;
      held = at.1;
      has = at.2;
      by = widened _ (batches_of (at.0 name)) came
          (subst (λ (found : Option (List ℕ)). ComesBy ⊥ (batches_of found) came) (sym at.2 ∙ ap at.0 same) reads);
    }

-- ---- both

module _ (accepts : Accepts) (signing : Signing) (batches : Option (List ℕ)) (before : End Files) where
  -- a fault of the batches is that of both, and the batches are ready with who vouches
  fault_behind : (made : Accepts) (failed other : Type 0) → (failed → other) → (right : Result (List Batch) RunFault) (fault : RunFault)
      → ComesBy failed right (Err fault) → ComesBy other (prepared_by signing right (Ok made)) (Err fault)
  fault_behind made failed other may right fault by = passed (ready_by signing made) (λ fault. refl) failed other may right fault by

  -- no list is named
  pub given_fault : (after : End Files) (fault : RunFault) → NamedBy None batches before after (Err fault)
      → Prepares accepts signing None batches before after (Err fault)
  given_fault after fault named = record {
    files = named.files;
    held = named.held;
    by = fault_behind accepts _ _ (λ (why : (is_some batches ≡ true) × Rose before.faults after.faults). why) (batches_with named.files batches) fault named.by;
  }

  pub given_ready : (after : End Files) (found : List Batch) → NamedBy None batches before after (Ok found)
      → Prepares accepts signing None batches before after (Ok (ready_with accepts signing found))
  given_ready after found named = record { files = named.files; held = named.held; by = ap (ready_by signing accepts) named.by }

  module _ (name : List ℕ) where
    -- a fault of the list is that of both
    fault_first : (after : End Files) (files : Files) (failed : Type 0) → (failed → Rose before.faults after.faults) → (fault : RunFault)
        → ComesBy failed (listed (files name)) (Err fault)
        → ComesBy ((true ≡ true) × Rose before.faults after.faults) (prepared_by signing (batches_with files batches) (listed (files name))) (Err fault)
    fault_first after files failed may fault by =
        passed (prepared_by signing (batches_with files batches)) (λ fault. refl) failed ((true ≡ true) × Rose before.faults after.faults)
        (λ why. (refl, may why)) (listed (files name)) fault by

    -- no list was fetched
    pub unlisted : (after : End Files) (e : ShelfFault) → Fetches before.tells name max_list (Err e) → (e ≡ shelves.Failed → Rose before.faults after.faults)
        → Prepares accepts signing (Some name) batches before after (Err (fault_of_shelf e))
    unlisted after e fetched failed =
        let file = file_at (Err e) before.tells name max_list tt fetched in
        let at = all_files before.tells name file.0 file.1 in
        record {
          files = at.0;
          held = at.1;
          by = fault_first after at.0 (Rose before.faults after.faults) (λ rose. rose) (fault_of_shelf e)
              (unfetched listed max_list refl long_list (Rose before.faults after.faults) e (at.0 name)
              (subst (λ (found : Option (List ℕ)). FileGives max_list found (Err e)) (sym at.2) file.2) failed);
        }

    module _ (list : Vec ℕ) (fetched : Fetches before.tells name max_list (Ok list)) (within : length list.items ≤ max_list) where
      -- a list that is none
      pub bad_list : (after : End Files) (e : AttestFault) → e ≡ unwrap_or (option_map lists.BadLine (first_bad_line list.items)) lists.OutOfMemory
          → Prepares accepts signing (Some name) batches before after (Err (fault_of_list e))
      bad_list after e why =
          let file = file_at (Ok list) before.tells name max_list within fetched in
          let at = all_files before.tells name file.0 file.1 in
          record {
            files = at.0;
            held = at.1;
            by = fault_first after at.0 ⊥ (λ none. absurd none) (fault_of_list e)
                (by_found at.0 (first_bad_line list.items) (list_is (at.0 name) list.items (at.2 ∙ file.2.0) within) why);
          }
        where
          by_found : (files : Files) (found : Option ℕ) → listed (files name) ≡ attested list.items found
              → e ≡ unwrap_or (option_map lists.BadLine found) lists.OutOfMemory → ComesBy ⊥ (listed (files name)) (Err (fault_of_list e))
          by_found files None same why = rw why tt
          by_found files (Some line) same why = rw why (same, refl)

      -- the list is known
      pub holds_list : (middle : End Files) → middle.tells ≡ before.tells → HoldsKnown middle (Some (name, list.items))
      holds_list middle same = subst (λ (held : Option Files). IfSome held (IsOf (Some (name, list.items)))) (sym same) (here before.tells fetched)
        where
          here : (held : Option Files) → Fetches held name max_list (Ok list) → IfSome held (IsOf (Some (name, list.items)))
          here None fetched = tt
          here (Some files) fetched = fetched.0

      module _ (middle after : End Files) (same : middle.tells ≡ before.tells) (made : Accepts) (good : first_bad_line list.items ≡ None)
          (alike : (key message signature : List ℕ) → made key message signature ≡ attests list.items key message signature) where
        -- who vouches by files with this list
        vouched_by : (files : Files) → IsOf (Some (name, list.items)) files → listed (files name) ≡ Ok made
        vouched_by files is = list_is (files name) list.items is within ∙ ap (attested list.items) good
            ∙ ap Ok (sym (same_verifier made (attests list.items) alike))

        told_before : (files : Files) → IfSome middle.tells (λ told. files ≡ told) → IfSome before.tells (λ told. files ≡ told)
        told_before files held = subst (λ (held : Option Files). IfSome held (λ told. files ≡ told)) same held

        pub listed_fault : before.faults ≤ middle.faults → (fault : RunFault) → NamedBy (Some (name, list.items)) batches middle after (Err fault)
            → Prepares accepts signing (Some name) batches before after (Err fault)
        listed_fault later fault named = record {
          files = named.files;
          held = told_before named.files named.held;
          by = subst (λ (r : Result Accepts RunFault). ComesBy ((true ≡ true) × Rose before.faults after.faults)
              (prepared_by signing (batches_with named.files batches) r) (Err fault)) (sym (vouched_by named.files named.has))
              (fault_behind made ((is_some batches ≡ true) × Rose middle.faults after.faults) ((true ≡ true) × Rose before.faults after.faults)
              (λ why. (refl, since why.1)) (batches_with named.files batches) fault named.by);
        }
          where
            since : Rose middle.faults after.faults → Rose before.faults after.faults
            since rose = omega (arith, later, rose)

        pub listed_ready : (found : List Batch) → NamedBy (Some (name, list.items)) batches middle after (Ok found)
            → Prepares accepts signing (Some name) batches before after (Ok (ready_with made signing found))
        listed_ready found named = record {
          files = named.files;
          held = told_before named.files named.held;
          by = ap (prepared_by signing (batches_with named.files batches)) (vouched_by named.files named.has) ∙ ap (ready_by signing made) named.by;
        }
