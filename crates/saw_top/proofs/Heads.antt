-- What one who follows a run without external processors was told, once the run has ended.
use Rattle.std.proofs.Common.{◌≡◌, ◌⊎◌, inl, inr, ℕ, ◌==◌, ◌∙◌, Bool, true, false, List, [], ◌∷◌, length, take, Option, Some, None, Result, Ok, Err, refl, sym, ap, subst, arith}
use Rattle.std.specs.Prelude.{IfSome, IsSome, option_map}
use Rattle.std.proofs.lemmas.List.{take_all}
use Rattle.std.specs.List.{list_any}
use Rattle.saw_context.specs.Outcome.{Processors}
use Rattle.saw_io.specs.Shelf.{Files}
use Rattle.saw_live.specs.Words.{Head}
use Rattle.saw_node.specs.Contents.{Node}
use Rattle.saw_publish.specs.Candidates.{Signing}
use Rattle.saw_report.specs.declared.run_fault.RunFault.{RunFault}
use Rattle.saw_report.specs.declared.run_fault.RunFault.TheVariants as runs
use Rattle.saw_top.specs.Answers.{Prepared, prepared, task_by}
use Rattle.saw_top.specs.Command.{Judge, Assignment}
use Rattle.saw_top.specs.Following.{Follows, HearsAll, HearsBy, HearsJob, HearsUpTo, IsHeard, MayCut, cuts, heads_for, heads_said}
use Rattle.saw_top.specs.Headline.{DoesAsked, DoesJob, HasCause, TellsEnd, TellsFault}
use Rattle.saw_top.specs.History.{History}
use Rattle.saw_top.specs.Outside.{End, Outside}
use Rattle.saw_top.specs.Stream.{stream_of}
use Rattle.saw_top.specs.World.{Accepts, AreWays, Ways, World, processors_alone, serially, world_with}
use Rattle.saw_top.specs.declared.task.Task.{Task}
use Rattle.saw_top.proofs.BuiltIn.{frames_told}
use Rattle.saw_top.proofs.Carrying.{unasked, unbegun}
use Rattle.saw_top.proofs.Counting.{later_same}
use Rattle.saw_top.proofs.HearingJobs.{cut_job, unasked_heard}
use Rattle.saw_top.proofs.OneAnswer.{history_told}
use Rattle.saw_top.proofs.Served.{own_alone}

-- ---- all ways to run batches give the same heads

heads_told : (ways : Ways) → AreWays processors_alone ways → (ready : Result Prepared RunFault) (bytes : List ℕ)
    → heads_for ways ready bytes ≡ heads_for (serially processors_alone) ready bytes
heads_told ways may (Err fault) bytes = refl
heads_told ways may (Ok made) bytes =
    ap (λ (run : History). heads_said run.said)
    (history_told processors_alone ways may made.accepts (stream_of bytes).frames (frames_told (stream_of bytes).frames))

-- ---- by how the run ended

module _ (before after : Outside) (notes : End (List ℕ)) (status : ℕ) where
  abbrev Cut : Type 0
  Cut = MayCut before after status

  -- a status that may come before all blocks were judged
  by_code : (code : ℕ) → list_any (λ other. other == code) (4 ∷ 5 ∷ 6 ∷ 7 ∷ 9 ∷ []) ≡ true → status ≡ code → Cut
  by_code code may is = inl (ap (λ code. list_any (λ other. other == code) (4 ∷ 5 ∷ 6 ∷ 7 ∷ 9 ∷ [])) is ∙ may)

  abbrev noted : Outside
  noted = record after { notes = notes }

  seven : TellsFault runs.Memory notes after.notes status → status ≡ 7
  seven (inl all) = all.0
  seven (inr (n, less, cut, inl failed)) = failed.0
  seven (inr (n, less, cut, inr code)) = code

  nine : (kept given : Node) → TellsFault (runs.Collision kept given) notes after.notes status → Cut
  nine kept given (inl all) = by_code 9 refl all.0
  nine kept given (inr (n, less, cut, inl failed)) = by_code 9 refl failed.0
  nine kept given (inr (n, less, cut, inr (inl code))) = by_code 9 refl code
  nine kept given (inr (n, less, cut, inr (inr code))) = by_code 7 refl code.0

  four : TellsFault runs.Read notes after.notes status → status ≡ 4
  four (inl all) = all.0
  four (inr (n, less, cut, inl failed)) = failed.0
  four (inr (n, less, cut, inr code)) = code

  five : TellsFault runs.Write notes after.notes status → status ≡ 5
  five (inl all) = all.0
  five (inr (n, less, cut, inl failed)) = failed.0
  five (inr (n, less, cut, inr code)) = code

  six : TellsFault runs.Peer notes after.notes status → status ≡ 6
  six (inl all) = all.0
  six (inr (n, less, cut, inl failed)) = failed.0
  six (inr (n, less, cut, inr code)) = code

  eleven : TellsFault runs.FileFailed notes after.notes status → status ≡ 11
  eleven (inl all) = all.0
  eleven (inr (n, less, cut, inl failed)) = failed.0
  eleven (inr (n, less, cut, inr code)) = code

  cut_short : (processors : Processors) (task : Task) (ready : Result Prepared RunFault) (fault : RunFault) → cuts fault ≡ true
      → HasCause processors task ready before noted (Err fault) → TellsFault fault notes after.notes status → Cut
  cut_short processors task ready runs.Read cut cause told = by_code 4 refl (four told)
  cut_short processors task ready runs.Write cut cause told = by_code 5 refl (five told)
  cut_short processors task ready runs.Peer cut cause told = by_code 6 refl (six told)
  cut_short processors task ready (runs.Collision kept given) cut cause told = nine kept given told
  cut_short processors task ready runs.Memory cut cause told = by_code 7 refl (seven told)
  cut_short processors task ready runs.FileFailed cut cause told = inr (eleven told, cause.0)
  cut_short processors task ready fault cut cause told = absurd cc

  module _ (heard : List Head → Type 0) (heads : List Head) where
    abbrev Heard : Type 0
    Heard = HearsAll heard heads before after status

    all_heard : heard heads → Heard
    all_heard told = ((length heads, subst heard (sym (take_all (length heads) heads (omega arith))) told), inr told)

    some_heard : (n : ℕ) → heard (take n heads) → Cut → Heard
    some_heard n told cut = ((n, told), inl cut)

    up_to_heard : (cut : Bool) → HearsUpTo cut heard heads → (cut ≡ true → Cut) → Heard
    up_to_heard true told why = some_heard told.0 told.1 (why refl)
    up_to_heard false told why = all_heard told

    by_end : (processors : Processors) (task : Task) (ready : Result Prepared RunFault) (came : Result ℕ RunFault) → HearsBy heard heads came
        → HasCause processors task ready before noted came → TellsEnd came notes after.notes status → Heard
    by_end processors task ready (Ok code) told cause ended = all_heard told
    by_end processors task ready (Err fault) told cause ended =
        up_to_heard (cuts fault) told (λ cut. cut_short processors task ready fault cut cause ended.0)

some_map : (first : Option (List ℕ)) (P Q : List ℕ → Type 0) → ((bytes : List ℕ) → P bytes → Q bytes) → IfSome first P → IfSome first Q
some_map None P Q step so = tt
some_map (Some bytes) P Q step so = step bytes so

module _ (accepts : Accepts) (signing : Signing) (wish : Option Assignment) (before after : Outside) (notes : End (List ℕ)) (status : ℕ) where
  abbrev given : Files → World
  given = world_with accepts signing processors_alone

  abbrev held : Outside
  held = record after { notes = notes }

  -- what holds of the same files
  pub is_heard : (heard : List Head → Type 0) (came : Result ℕ RunFault) → DoesJob given wish before held came
      → HearsJob given wish before.shelf.tells heard before.input.tells came → TellsEnd came notes after.notes status
      → IsHeard given wish before after status heard
  is_heard heard came done told ended =
      let ready = prepared (given told.files) wish in
      record {
        files = told.files;
        are = told.are;
        heads = some_map before.input.tells (λ bytes. HearsBy heard (heads_for told.ways ready bytes) came)
            (λ bytes. HearsAll heard (heads_for (serially processors_alone) ready bytes) before after status)
            (λ bytes so. by_end before after notes status heard (heads_for (serially processors_alone) ready bytes) processors_alone (task_by wish)
            (prepared (given done.files) wish) came
            (subst (λ (heads : List Head). HearsBy heard heads came) (heads_told told.ways told.may ready bytes) so) done.does.cause ended) told.so;
      }

-- ---- jobs that are not begun

module _ (accepts : Accepts) (signing : Signing) (before : Outside) where
  abbrev world : Files → World
  world = world_with accepts signing processors_alone

  -- the words ask for nothing
  pub not_asked : (wish : Option Assignment) → wish ≡ None → DoesJob world wish before before (Err runs.Words)
  not_asked wish none =
      subst (λ (w : Option Assignment). DoesJob world w before before (Err runs.Words)) (sym none) (unasked accepts signing processors_alone own_alone None before refl)

  pub not_heard : (wish : Option Assignment) (follows : Bool) (begin : List Head) → wish ≡ None
      → HearsJob world wish before.shelf.tells (Follows follows begin begin) before.input.tells (Err runs.Words)
  not_heard wish follows begin none =
      subst (λ (w : Option Assignment). HearsJob world w before.shelf.tells (Follows follows begin begin) before.input.tells (Err runs.Words)) (sym none)
      (unasked_heard world before.shelf.tells before.input.tells (λ files. own_alone) follows begin)

  -- memory was refused
  pub not_begun : (asked : Option Assignment) (wish : Assignment) → Some wish ≡ asked → DoesJob world asked before before (Err runs.Memory)
  not_begun asked wish is =
      subst (λ (w : Option Assignment). DoesJob world w before before (Err runs.Memory)) is
      (unbegun world wish before before.remotes (later_same before.remotes) (λ files. own_alone) runs.Memory (inr refl) (λ is. absurd cc))

  pub not_read : (asked : Option Assignment) → IsSome asked → DoesJob world asked before before (Err runs.Memory)
  not_read None some = absurd cc
  not_read (Some wish) some = not_begun (Some wish) wish refl

  pub none_heard : (wish : Option Assignment) (follows : Bool) (begin : List Head)
      → HearsJob world wish before.shelf.tells (Follows follows begin begin) before.input.tells (Err runs.Memory)
  none_heard wish follows begin = cut_job world wish before.shelf.tells before.input.tells follows begin (λ files. own_alone) runs.Memory refl

-- a job is what was asked for
pub asked_done : (given : Files → World) (wish : Option Assignment) (before after : Outside) (came : Result ℕ RunFault) → DoesJob given wish before after came
    → DoesAsked given (option_map Judge wish) before after came
asked_done given None before after came done = done
asked_done given (Some wish) before after came done = done

-- ---- beside readers

module _ (accepts : Accepts) (signing : Signing) (wish : Option Assignment) (before after : Outside) (notes : End (List ℕ)) (status : ℕ)
    (came : Result ℕ RunFault) (done : DoesJob (world_with accepts signing processors_alone) wish before (record after { notes = notes }) came)
    (ended : TellsEnd came notes after.notes status) where
  -- nobody was served only for invalid arguments or want of memory
  unserved : (came ≡ Err runs.Words) ⊎ (came ≡ Err runs.Memory) → (wish ≡ None) ⊎ (status ≡ 7)
  unserved (inl words) = inl (done.words.0 words)
  unserved (inr memory) =
      let told : TellsEnd (Err runs.Memory) notes after.notes status = subst (λ (c : Result ℕ RunFault). TellsEnd c notes after.notes status) memory ended in
      inr (seven before after notes status told.0)

  pub host_served : {Still : Type 0} {Answered : List Head → Type 0}
      → (((came ≡ Err runs.Words) ⊎ (came ≡ Err runs.Memory)) × Still)
      ⊎ ((heads : List Head) × HearsJob (world_with accepts signing processors_alone) wish before.shelf.tells (Follows true [] heads) before.input.tells came
      × Answered heads)
      → (((wish ≡ None) ⊎ (status ≡ 7)) × Still)
      ⊎ ((heads : List Head) × IsHeard (world_with accepts signing processors_alone) wish before after status (Follows true [] heads) × Answered heads)
  host_served (inl still) = inl (unserved still.0, still.1)
  host_served (inr (heads, heard, answered)) = inr (heads, is_heard accepts signing wish before after notes status (Follows true [] heads) came done heard ended, answered)
