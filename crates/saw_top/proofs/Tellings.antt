-- What was told at the end, as what the end says.
use Rattle.std.proofs.Common.{◌≡◌, ◌⊎◌, ◌≤◌, inl, inr, ℕ, Bool, true, false, List, [], length, take, drop, Option, Some, None, Result, Ok, Err, refl}
use Rattle.std.proofs.Common.{sym, ap, ap₂, subst, ◌++◌, ◌∙◌, arith}
use Rattle.std.specs.Prelude.{◌||◌, IfErr, IfOk, IsErrOf, OnErr, if◌then◌else◌, ◌==◌}
use Rattle.std.specs.Io.KnownBytes.{Appends}
use Rattle.std.specs.List.{flat_map}
use Rattle.std.proofs.KnownBytes.{Appends-nil}
use Rattle.std.proofs.lemmas.List.{append-nil, take-append-drop}
use Rattle.saw_context.specs.Outcome.{Processors}
use Rattle.saw_faults.specs.Counts.{Rose}
use Rattle.saw_io.specs.Frame.{frame}
use Rattle.saw_journal.specs.Judgement.{Rules}
use Rattle.saw_journal.specs.Ledger.{Ledger, map_under}
use Rattle.saw_messages.specs.declared.batch.Batch.{Batch as BatchMessage}
use Rattle.saw_node.specs.Hashes.{first_half}
use Rattle.saw_publish.specs.Candidates.{Signing, content_of}
use Rattle.saw_queries.specs.Queries.{block_with, branch_receipts}
use Rattle.saw_receipts.specs.Heads.{head_branch, head_of}
use Rattle.saw_receipts.specs.Running.{Runs, RunsBy}
use Rattle.saw_receipts.specs.declared.block.BlockRecord.{BlockRecord}
use Rattle.saw_receipts.specs.declared.loss.Loss.{Loss}
use Rattle.saw_report.specs.Lines.{loss_line}
use Rattle.saw_report.specs.declared.run_fault.RunFault.TheVariants as runs
use Rattle.saw_report.specs.declared.run_fault.RunFault.{RunFault}
use Rattle.saw_rules.specs.declared.policy.Placed.{Placed}
use Rattle.saw_top.specs.Ends.{Finishes, IsOfEnd, Tells, WritesBy, WritesEnd, end_at, publication_in}
use Rattle.saw_top.specs.Headline.{IsDone}
use Rattle.saw_top.specs.Listing.{entries_under, found_status, events_told, has_events, proof_status}
use Rattle.saw_top.specs.Making.{Makes, block_in, code_with, text_with}
use Rattle.saw_top.specs.Outside.{End, SomeRose, WritesFront}
use Rattle.saw_top.specs.Publishing.{Publication, Waiting, has_no_block, parent_at, refusal_text}
use Rattle.saw_top.specs.Run.{AtEnd, plain_end, status_by}
use Rattle.saw_top.specs.World.{Accepts, rules_with, serially}
use Rattle.saw_top.specs.declared.publishing.Made.{Made}
use Rattle.saw_top.specs.declared.task.Ending.{Ending}
use Rattle.saw_top.specs.declared.task.Ending.TheVariants.{Batch, Candidate, Events, Head, Entries, Proof, Receipts}
use Rattle.saw_top.proofs.OwnReasons.{HasOwnReasons, serial_may}

-- ---- the statuses

-- nothing to list, or something
by_test : (none : Bool) (status : ℕ) → status ≡ (if none then 8 else 0) → (status ≡ 0) ⊎ (status ≡ 8)
by_test true status is = inr is
by_test false status is = inl is

by_found : (found : Option BlockRecord) (status : ℕ) → status ≡ found_status found → (status ≡ 0) ⊎ (status ≡ 8)
by_found None status is = inr is
by_found (Some block) status is = inl is

by_some : (some : Bool) (status : ℕ) → status ≡ (if some then 0 else 8) → (status ≡ 0) ⊎ (status ≡ 8)
by_some true status is = inl is
by_some false status is = inr is

by_head : (head : Option BlockRecord) (status : ℕ) → status ≡ proof_status head → (status ≡ 0) ⊎ (status ≡ 8)
by_head None status is = inr is
by_head (Some head) status is = inl is

by_refused : (refused : Bool) (status : ℕ) → status ≡ status_by refused → (status ≡ 0) ⊎ (status ≡ 1)
by_refused true status is = inr is
by_refused false status is = inl is

by_block : (refused : Bool) (block : Option (List ℕ)) (status : ℕ) → status ≡ code_with refused block → (status ≡ 0) ⊎ (status ≡ 1)
by_block refused None status is = inr is
by_block refused (Some content) status is = by_refused refused status is

-- ---- texts

-- a part of a text is a prefix of it
pub part_front : (text : List ℕ) (n : ℕ) (old new : Option (List ℕ)) → Appends old new (take n text) → WritesFront text old new
part_front text n old new wrote = (take n text, drop n text, sym (take-append-drop n text), wrote)

whole_front : (text : List ℕ) (old new : Option (List ℕ)) → Appends old new text → WritesFront text old new
whole_front text old new wrote = (text, [], sym (append-nil text), wrote)

nothing_yet : (text : List ℕ) (old : Option (List ℕ)) → WritesFront text old old
nothing_yet text old = ([], text, refl, Appends-nil old)

-- ---- by how it ended

-- a fault, as the result of what gives a status and of what gives nothing
abbrev as_status : RunFault → Result ℕ RunFault
as_status e = Err e

abbrev as_end : RunFault → Result (Unit {0}) RunFault
as_end e = Err e

module _ (text lines : List ℕ) (code : ℕ) (old new told told_new : End (List ℕ)) (later : told.faults ≤ told_new.faults) where
  -- all was told
  pub tells_all : (status : ℕ) → Appends old.tells new.tells text → Appends told.tells told_new.tells lines → status ≡ code
      → Tells text lines code old new told told_new (Ok status)
  tells_all status wrote noted same = record {
    output = whole_front text old.tells new.tells wrote;
    notes = whole_front lines told.tells told_new.tells noted;
    order = inr noted;
    all = (wrote, noted);
    same = same;
    which = tt;
    later = later;
    rose = λ is. absurd cc;
  }

  -- a part was
  pub tells_part : (e : RunFault) → WritesFront text old.tells new.tells → WritesFront lines told.tells told_new.tells
      → (new.tells ≡ old.tells) ⊎ Appends told.tells told_new.tells lines → (e ≡ runs.Write) ⊎ (e ≡ runs.Memory)
      → (as_status e ≡ Err runs.Write → Rose old.faults new.faults ⊎ Rose told.faults told_new.faults)
      → Tells text lines code old new told told_new (Err e)
  tells_part e wrote noted order which rose = record {
    output = wrote;
    notes = noted;
    order = order;
    all = tt;
    same = tt;
    which = which;
    later = later;
    rose = rose;
  }

-- the first of the lines were told; nothing was written yet
pub losses_cut : (text : List ℕ) (code : ℕ) (old told told_new : End (List ℕ)) (lines : List ℕ) (e : RunFault) → told.faults ≤ told_new.faults
    → (n : ℕ) × Appends told.tells told_new.tells (take n lines) → (e ≡ runs.Write) ⊎ (e ≡ runs.Memory)
    → (as_end e ≡ Err runs.Write → Rose told.faults told_new.faults) → Tells text lines code old old told told_new (Err e)
losses_cut text code old told told_new lines e later cut which rose =
    tells_part text lines code old old told told_new later e (nothing_yet text old.tells) (part_front lines cut.0 told.tells told_new.tells cut.1) (inl refl) which
    (λ is. let same : e ≡ runs.Write = cc in inr (rose (ap Err same)))

-- all lines were told, and a part of the text was written
pub text_part : (text : List ℕ) (code : ℕ) (old new told told_new : End (List ℕ)) (lines : List ℕ) (e : RunFault) → told.faults ≤ told_new.faults
    → Appends told.tells told_new.tells lines → (n : ℕ) × Appends old.tells new.tells (take n text) → (e ≡ runs.Write) ⊎ (e ≡ runs.Memory)
    → (as_end e ≡ Err runs.Write → Rose old.faults new.faults) → Tells text lines code old new told told_new (Err e)
text_part text code old new told told_new lines e later noted cut which rose =
    tells_part text lines code old new told told_new later e (part_front text cut.0 old.tells new.tells cut.1)
    (whole_front lines told.tells told_new.tells noted) (inr noted) which (λ is. let same : e ≡ runs.Write = cc in inl (rose (ap Err same)))

-- what only the output has
pub tells_only : (text : List ℕ) (code : ℕ) (old new told : End (List ℕ)) (result : Result ℕ RunFault)
    → IfOk result (λ status. Appends old.tells new.tells text) → IfOk result (λ status. status ≡ code)
    → OnErr result ((n : ℕ) × Appends old.tells new.tells (take n text)) → IfErr result (λ e. (e ≡ runs.Write) ⊎ (e ≡ runs.Memory))
    → (IsErrOf result runs.Write → Rose old.faults new.faults) → Tells text [] code old new told told result
tells_only text code old new told (Ok status) wrote same cut which rose =
    tells_all text [] code old new told told (omega arith) status wrote (Appends-nil told.tells) same
tells_only text code old new told (Err e) wrote same cut which rose =
    tells_part text [] code old new told told (omega arith) e (part_front text cut.0 old.tells new.tells cut.1) (nothing_yet [] told.tells)
    (inr (Appends-nil told.tells)) which (λ is. inl (rose is))

-- ---- the end

of_end : (e : RunFault) → (e ≡ runs.Write) ⊎ (e ≡ runs.Memory) → IsOfEnd e
of_end e (inl is) = rw is tt
of_end e (inr is) = rw is tt

if_of_end : (result : Result ℕ RunFault) → IfErr result (λ e. (e ≡ runs.Write) ⊎ (e ≡ runs.Memory)) → IfErr result IsOfEnd
if_of_end (Ok status) which = tt
if_of_end (Err e) which = of_end e which

never_peer : (result : Result ℕ RunFault) → IfErr result (λ e. (e ≡ runs.Write) ⊎ (e ≡ runs.Memory)) → IsErrOf result runs.Peer → ⊥
never_peer (Ok status) which is = cc is
never_peer (Err e) (inl same) is = cc
never_peer (Err e) (inr same) is = cc

module _ (end : AtEnd) (ledger : Ledger) (old new told told_new : End (List ℕ)) where
  by_fault : (e : RunFault) → (e ≡ runs.Write) ⊎ (e ≡ runs.Memory) → WritesBy end ledger old new told told_new (Err e)
  by_fault e (inl is) = rw is tt
  by_fault e (inr is) = rw is tt

  by_result : (result : Result ℕ RunFault) → Tells end.output end.noted end.status old new told told_new result
      → WritesBy end ledger old new told told_new result
  by_result (Ok status) tells = (tells.all.0, tells.all.1, tells.same)
  by_result (Err e) tells = by_fault e tells.which

  writes_end : (result : Result ℕ RunFault) → Tells end.output end.noted end.status old new told told_new result
      → WritesEnd end ledger old new told told_new result
  writes_end result tells = record { output = tells.output; notes = tells.notes; order = tells.order; by = by_result result tells }

if_done : (ending : Ending) (code : ℕ) → ((status : ℕ) → status ≡ code → IsDone ending status) → (result : Result ℕ RunFault)
    → IfOk result (λ status. status ≡ code) → IfOk result (IsDone ending)
if_done ending code done (Ok status) same = done status same
if_done ending code done (Err e) same = tt

module _ (processors : Processors) (own : HasOwnReasons processors) (accepts : Accepts) (waiting : Waiting) (ledger : Ledger) (refused : Bool)
    (old new told : End (List ℕ)) (counts : List ℕ) (result : Result ℕ RunFault) where
  abbrev serial_rules : Rules
  serial_rules = rules_with first_half accepts (serially processors).candidate

  -- an end that tells nothing on the notes
  plain : (ending : Ending) (text : List ℕ) (code : ℕ) → end_at serial_rules waiting ending ledger refused ≡ plain_end text code
      → ((status : ℕ) → status ≡ code → IsDone ending status) → Tells text [] code old new told told result
      → Finishes processors accepts waiting ending ledger refused old new told told counts counts result
  plain ending text code is done tells = record {
    way = (serially processors).candidate;
    may = (serial_may processors own).candidate;
    writes = subst (λ (end : AtEnd). WritesEnd end ledger old new told told result) (sym is)
        (writes_end (plain_end text code) ledger old new told told result tells);
    lines = [];
    aside = λ other. refl;
    noted = Appends-nil told.tells;
    later = tells.later;
    done = if_done ending code done result tells.same;
    kind = if_of_end result tells.which;
    rose = tells.rose;
    peer = λ is. absurd (never_peer result tells.which is);
  }

  abbrev end_of : Ending → AtEnd
  end_of ending = end_at serial_rules waiting ending ledger refused

  -- a status of an end that tells nothing on the notes
  is_done : (ending : Ending) → (ending ≡ Candidate → ⊥) → (status : ℕ) → status ≡ (end_of ending).status → IsDone ending status
  is_done Head other status is = by_refused refused status is
  is_done (Entries prefix) other status is =
      by_test (length (entries_under prefix (map_under ledger.states (head_of ledger.blocks))) == 0) status is
  is_done Receipts other status is = by_test (length (branch_receipts (head_branch ledger.blocks)) == 0) status is
  is_done (Batch id) other status is = by_found (block_with id (head_branch ledger.blocks)) status is
  is_done (Proof at) other status is = by_head (head_of ledger.blocks) status is
  is_done (Events known wish) other status is = by_some (has_events (events_told known wish ledger.blocks)) status is
  is_done Candidate other status is = absurd (other refl)

  is_plain : (ending : Ending) → (ending ≡ Candidate → ⊥) → end_of ending ≡ plain_end (end_of ending).output (end_of ending).status
  is_plain Head other = refl
  is_plain (Entries prefix) other = refl
  is_plain Receipts other = refl
  is_plain (Batch id) other = refl
  is_plain (Proof at) other = refl
  is_plain (Events known wish) other = refl
  is_plain Candidate other = absurd (other refl)

  pub finishes_plain : (ending : Ending) → (ending ≡ Candidate → ⊥) → Tells (end_of ending).output [] (end_of ending).status old new told told result
      → Finishes processors accepts waiting ending ledger refused old new told told counts counts result
  finishes_plain ending other tells =
      plain ending (end_of ending).output (end_of ending).status (is_plain ending other) (is_done ending other) tells

-- ---- a candidate

text_same : (none : Bool) (content : List ℕ) → text_with (if none then None else Some content) ≡ (if none then [] else frame content)
text_same true content = refl
text_same false content = refl

code_same : (refused none : Bool) (content : List ℕ) → code_with refused (if none then None else Some content) ≡ (if refused || none then 1 else 0)
code_same true true content = refl
code_same true false content = refl
code_same false true content = refl
code_same false false content = refl

module _ (processors : Processors) (accepts : Accepts) (signing : Signing) (batches : List BatchMessage) (ledger : Ledger) (refused : Bool)
    (old new told told_new : End (List ℕ)) (counts news : List ℕ) where
  abbrev waiting : Waiting
  waiting = record { signing = signing; batches = batches }

  -- what was made was told, or a prefix of it
  pub finishes_made : (made : Made) → Makes processors accepts (record { signing = signing; batches = batches }) ledger (Ok made) → (result : Result ℕ RunFault)
      → Tells (text_with (block_in made)) (flat_map loss_line made.dropped ++ refusal_text made.refusal) (code_with refused (block_in made)) old new told told_new result
      → Finishes processors accepts waiting Candidate ledger refused old new told told_new counts news result
  finishes_made made makes result tells = record {
    way = makes.0;
    may = makes.1;
    writes = writes_end end ledger old new told told_new result as_end;
    lines = tells.notes.0;
    aside = λ other. absurd (other refl);
    noted = tells.notes.3;
    later = tells.later;
    done = if_done Candidate (code_with refused (block_in made)) (by_block refused (block_in made)) result tells.same;
    kind = if_of_end result tells.which;
    rose = tells.rose;
    peer = λ is. absurd (never_peer result tells.which is);
  }
    where
      rules : Rules
      rules = rules_with first_half accepts makes.0

      here : Publication
      here = publication_in (rules_with first_half accepts makes.0) waiting ledger

      end : AtEnd
      end = end_at (rules_with first_half accepts makes.0) waiting Candidate ledger refused

      as_end : Tells end.output end.noted end.status old new told told_new result
      as_end =
          let at = makes.2 in
          let content = content_of first_half signing (parent_at ledger.blocks) here.draft in
          let text : text_with (block_in made) ≡ end.output = ap text_with at.0 ∙ text_same (has_no_block here) content in
          let lines : flat_map loss_line made.dropped ++ refusal_text made.refusal ≡ end.noted =
          ap₂ (λ (losses : List Loss) (refusal : Option Placed). flat_map loss_line losses ++ refusal_text refusal) at.2 at.1 in
          let code : code_with refused (block_in made) ≡ end.status = ap (code_with refused) at.0 ∙ code_same refused (has_no_block here) content in
          subst (λ (l : List ℕ). Tells l end.noted end.status old new told told_new result) text
          (subst (λ (l : List ℕ). Tells (text_with (block_in made)) l end.status old new told told_new result) lines
          (subst (λ (n : ℕ). Tells (text_with (block_in made)) (flat_map loss_line made.dropped ++ refusal_text made.refusal) n old new told told_new result) code tells))

module _ (processors : Processors) (own : HasOwnReasons processors) (accepts : Accepts) (signing : Signing) (batches : List BatchMessage) (ledger : Ledger)
    (refused : Bool) (old told : End (List ℕ)) (counts news : List ℕ) where
  abbrev Unmade : RunFault → Type 0
  Unmade e = Makes processors accepts (record { signing = signing; batches = batches }) ledger (Err e)

  never_write : (e : RunFault) → Unmade e → as_status e ≡ Err runs.Write → ⊥
  never_write (runs.Collision kept given) makes is = cc is
  never_write runs.Peer makes is = cc is
  never_write runs.Memory makes is = cc is
  never_write e makes is = makes.2

  kind_of : (e : RunFault) → Unmade e → IsOfEnd e
  kind_of (runs.Collision kept given) makes = (makes.2.1.2, makes.2.1.3)
  kind_of runs.Peer makes = tt
  kind_of runs.Memory makes = tt
  kind_of e makes = absurd makes.2

  -- by some way to run the batches
  abbrev Finished : RunFault → Type 0
  Finished e = (by : Runs) × RunsBy processors by
      × WritesBy (end_at (rules_with first_half accepts by) (record { signing = signing; batches = batches }) Candidate ledger refused) ledger old old told
      told (Err e)

  by_unmade : (e : RunFault) → Unmade e → Finished e
  by_unmade (runs.Collision kept given) makes =
      let here = publication_in (rules_with first_half accepts makes.0) (record { signing = signing; batches = batches }) ledger in (
        makes.0,
        makes.1,
        record {
          m = here.draft.left;
          made = ap (λ (none : Bool). if none then None else Some here.draft.left) makes.2.0;
          clash = makes.2.1;
          still = refl;
          quiet = refl;
        },
      )
  by_unmade runs.Peer makes = ((serially processors).candidate, (serial_may processors own).candidate, tt)
  by_unmade runs.Memory makes = ((serially processors).candidate, (serial_may processors own).candidate, tt)
  by_unmade e makes = absurd makes.2

  -- nothing was made, and nothing told
  pub finishes_unmade : (e : RunFault) → Unmade e → (as_status e ≡ Err runs.Peer → SomeRose counts news)
      → Finishes processors accepts (record { signing = signing; batches = batches }) Candidate ledger refused old old told told counts news (Err e)
  finishes_unmade e makes peer =
      let by = by_unmade e makes in
      record {
        way = by.0;
        may = by.1;
        writes = record { output = nothing_yet _ old.tells; notes = nothing_yet _ told.tells; order = inl refl; by = by.2 };
        lines = [];
        aside = λ other. refl;
        noted = Appends-nil told.tells;
        later = omega arith;
        done = tt;
        kind = kind_of e makes;
        rose = λ is. absurd (never_write e makes is);
        peer = peer;
      }
