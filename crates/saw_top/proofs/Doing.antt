-- What a task does, by how the judging of the stream ended and what was written behind it.
use Rattle.std.proofs.Common.{◌≡◌, ◌⊎◌, ◌≤◌, inl, inr, ℕ, Bool, true, false, List, [], ◌++◌, Option, Some, None, Result, Ok, Err, refl}
use Rattle.std.proofs.Common.{sym, ap, ap₂, subst, ◌∙◌, append_assoc, arith, length}
use Rattle.std.specs.Prelude.{IfErr, IfOk, IfSome, IsErrOf, if◌then◌else◌}
use Rattle.std.specs.FinMap as finite
use Rattle.std.specs.Io.KnownBytes.{Appends}
use Rattle.std.specs.List.{AllByRecursion}
use Rattle.std.proofs.KnownBytes.{Appends-nil, Appends-trans}
use Rattle.std.proofs.lemmas.List.{append-nil, take_all}
use Rattle.saw_context.specs.Outcome.{Processors}
use Rattle.saw_faults.specs.Counts.{Rose}
use Rattle.saw_io.specs.Shelf.{Files}
use Rattle.saw_receipts.specs.Heads.{head_branch, head_of}
use Rattle.saw_journal.specs.Judgement.{Kept, Rules}
use Rattle.saw_journal.specs.Ledger.{Ledger, map_under}
use Rattle.saw_merkle.specs.States.{States}
use Rattle.saw_node.specs.Hashes.{first_half}
use Rattle.saw_node.specs.Contents.{Node}
use Rattle.saw_receipts.specs.Running.{Runs}
use Rattle.saw_receipts.specs.declared.block.BlockRecord.{BlockRecord}
use Rattle.saw_report.specs.Lines.{head_line}
use Rattle.saw_report.specs.declared.run_fault.RunFault.TheVariants as runs
use Rattle.saw_report.specs.declared.run_fault.RunFault.{RunFault}
use Rattle.saw_top.specs.Answers.{Prepared, answer_for, ready_with}
use Rattle.saw_top.specs.Clashing.{ClashIn, TellsAlike}
use Rattle.saw_top.specs.Ends.{ClashesAt, Finishes, IsOfEnd, WritesBy, WritesEnd, end_at, publication_in}
use Rattle.saw_top.specs.Publishing.{Publication, Waiting, candidate_status, candidate_text, losses_text, map_left, parent_at, publication_at, publication_of}
use Rattle.saw_publish.specs.Building.{map_before}
use Rattle.saw_publish.specs.Candidates.{Signing}
use Rattle.saw_receipts.specs.Branches.{ids_in}
use Rattle.saw_messages.specs.declared.batch.Batch.{Batch as BatchMessage}
use Rattle.saw_address.specs.Maps.{StateMap}
use Rattle.saw_top.specs.EndingFaults.{IsOfStream}
use Rattle.saw_top.specs.Headline.{DoesTask, EndsBy, LinesInTime, HasCause, HasFault, IsDone, LinesOfAllRead, MeetsClash, MeetsClashBehind, WritesAnswer, WritesAnswerOf, TellsFirst}
use Rattle.saw_top.specs.History.{History, map_behind, maps_of, records_of, some_refused}
use Rattle.saw_top.specs.StreamJudging.{JudgesFor}
use Rattle.saw_top.specs.StreamJudging.{IsPrompt, IsUpToDate, Judges, JudgesAll, JudgesBy, JudgesTo, StopsAtClash}
use Rattle.saw_top.specs.Listing.{batch_status, batch_text, events_status, events_text, listing, listing_status, proof_status, proof_text, receipts_status, receipts_text}
use Rattle.saw_top.specs.Outside.{End, Outside, Sides, SomeRose, WritesFront, lines_side, other_side, sides_of}
use Rattle.saw_top.specs.Reports.{report}
use Rattle.saw_top.specs.Run.{Answer, AtEnd, end_by, ending_of, fault_of, history_of, noted_by, plain_end, run_of, run_to, status_by, task_answer, written_by}
use Rattle.saw_top.specs.KeptBlocks.{IsAfter, IsKeptBlock}
use Rattle.saw_top.specs.World.{Accepts, AreWays, Judging, Ways, judging_by, rules_with, serially}
use Rattle.saw_top.specs.declared.task.Ending.{Ending}
use Rattle.saw_top.specs.declared.task.Ending.TheVariants.{Batch, Candidate, Events, Head, Entries, Proof, Receipts}
use Rattle.saw_top.specs.declared.task.Lines.{Lines}
use Rattle.saw_top.specs.declared.task.Lines.TheVariants.{All, Refused}
use Rattle.saw_top.specs.declared.task.Task.{Task}
use Rattle.saw_top.specs.Limits.{max_frames}
use Rattle.saw_top.specs.Stream.{stream_of}
use Rattle.saw_top.proofs.BehindHead.{map_is}
use Rattle.saw_top.proofs.Histories.{by_ways}
use Rattle.saw_top.proofs.Judgements.{IsRight, all_right}
use Rattle.saw_top.proofs.Listed.{of_head}
use Rattle.saw_top.proofs.OneAnswer.{shows_told}
use Rattle.saw_top.proofs.OwnReasons.{HasOwnReasons, serial_may}
use Rattle.saw_top.proofs.Standings.{clash_in, nothing_judged}
use Rattle.saw_top.proofs.Streams.{whole_read}

-- nothing was written of a text
pub no_front : (text : List ℕ) (old : Option (List ℕ)) → WritesFront text old old
no_front text old = ([], text, refl, Appends-nil old)

-- what is written behind a text that is a front
front_more : (text more : List ℕ) (old new : Option (List ℕ)) → WritesFront text old new → WritesFront (text ++ more) old new
front_more text more old new (written, rest, is, wrote) = (written, rest ++ more, ap (λ (l : List ℕ). l ++ more) is ∙ append_assoc written rest more, wrote)

-- a prefix of what stands behind a text that was written
front_behind : (all : List ℕ) (old mid new : Option (List ℕ)) (text more : List ℕ) → all ≡ text ++ more → Appends old mid text
    → WritesFront more mid new → WritesFront all old new
front_behind all old mid new text more is first (written, rest, same, wrote) = (
  text ++ written,
  rest,
  is ∙ ap (λ (l : List ℕ). text ++ l) same ∙ sym (append_assoc text written rest),
  Appends-trans old mid new text written first wrote,
)

-- ---- where the lines of a task stand

unmoved : (old new : End (List ℕ)) → new ≡ old → Appends old.tells new.tells []
unmoved old new same = subst (λ (e : End (List ℕ)). Appends old.tells e.tells []) (sym same) (Appends-nil old.tells)

unmoved_front : (old new : End (List ℕ)) → new ≡ old → WritesFront [] old.tells new.tells
unmoved_front old new same = ([], [], refl, unmoved old new same)

module _ (before middle : Outside) (run : History) where
  -- with more behind them
  placed : (lines : Lines) → other_side lines middle ≡ other_side lines before → (more : List ℕ)
      → Appends (lines_side lines before).tells (lines_side lines middle).tells (report lines 0 run.said ++ more)
      → ((more : List ℕ) × Appends before.output.tells middle.output.tells (written_by lines run ++ more))
      × ((more : List ℕ) × Appends before.notes.tells middle.notes.tells (noted_by lines run ++ more))
  placed All aside more wrote = ((more, wrote), ([], unmoved before.notes middle.notes aside))
  placed Refused aside more wrote = (([], unmoved before.output middle.output aside), (more, wrote))

  -- and nothing
  placed_all : (lines : Lines) → other_side lines middle ≡ other_side lines before
      → Appends (lines_side lines before).tells (lines_side lines middle).tells (report lines 0 run.said)
      → Appends before.output.tells middle.output.tells (written_by lines run) × Appends before.notes.tells middle.notes.tells (noted_by lines run)
  placed_all All aside wrote = (wrote, unmoved before.notes middle.notes aside)
  placed_all Refused aside wrote = (unmoved before.output middle.output aside, wrote)

  placed_front : (lines : Lines) → other_side lines middle ≡ other_side lines before
      → WritesFront (report lines 0 run.said) (lines_side lines before).tells (lines_side lines middle).tells
      → WritesFront (written_by lines run) before.output.tells middle.output.tells × WritesFront (noted_by lines run) before.notes.tells middle.notes.tells
  placed_front All aside front = (front, unmoved_front before.notes middle.notes aside)
  placed_front Refused aside front = (unmoved_front before.output middle.output aside, front)

-- ---- what the task shows

none_in : (is_full : Bool) (fault : Option RunFault) → (if is_full then Some runs.Blocks else fault) ≡ None → fault ≡ None
none_in true fault none = absurd cc
none_in false fault none = none

module _ (judging : Judging) (rules : Rules) (waiting : Waiting) (task : Task) (bytes : List ℕ) (left : Option (List ℕ)) (before middle : Outside)
    (aside : other_side task.lines middle ≡ other_side task.lines before) where
  abbrev answer : Answer
  answer = task_answer judging rules waiting task bytes

  abbrev run : History
  run = run_of judging bytes

  abbrev old : Option (List ℕ)
  old = (lines_side task.lines before).tells

  abbrev mid : Option (List ℕ)
  mid = (lines_side task.lines middle).tells

  abbrev at : Sides
  at = sides_of before middle

  abbrev on_output : List ℕ
  on_output = written_by task.lines run

  abbrev on_notes : List ℕ
  on_notes = noted_by task.lines run

  keeps_up : IsUpToDate judging task.lines bytes left old mid → LinesOfAllRead answer bytes left at
  keeps_up up =
      let there = placed_all before middle (run_to judging bytes (length up.frames)) task.lines aside up.written in
      record {
        frames = up.frames;
        rest = up.rest;
        reads = up.reads;
        told = up.told;
        few = up.few;
        taken = up.taken;
        consumed = up.consumed;
        part =
            up.part;
        output = there.0;
        notes = there.1;
      }

  -- the judging ended with a fault of the stream
  shows_to : (fault : RunFault) → JudgesTo judging task.lines bytes old mid fault → HasFault answer bytes left at fault
  shows_to fault judged =
      let there = placed_all before middle run task.lines aside judged.1 in
      let end : AtEnd → Type 0 = λ e. (on_output ++ e.output ≡ on_output) × (on_notes ++ e.noted ≡ on_notes) in
      let none = subst end (sym (ap (end_by rules waiting task.ending run) judged.0)) (append-nil on_output, append-nil on_notes) in (
        record {
          output = subst (Appends at.old at.new) (sym none.0) there.0;
          notes = subst (Appends at.told_old at.told_new) (sym none.1) there.1;
          code = sym (ap (λ (f : Option RunFault). (end_by rules waiting task.ending run f).status) judged.0);
        },
        judged.0,
      )

  -- two different nodes of one hash were met
  meets_clash : (kept given : Node) → StopsAtClash judging task.lines bytes left old mid kept given
      → MeetsClash answer bytes left at kept given
  meets_clash kept given met =
      let there = placed_all before middle (run_to judging bytes (length met.frames)) task.lines aside met.written in
      record {
        frames = met.frames;
        content = met.content;
        rest = met.rest;
        reads = met.reads;
        left_is = met.left_is;
        m = met.m;
        tried = met.would;
        output = there.0;
        notes = there.1;
        clash = met.clash;
      }

  shows_by : (ledger : Ledger) (e : RunFault) → JudgesBy judging task.lines bytes left old mid ledger (Err e) → EndsBy answer bytes left at (Err e)
  shows_by ledger (runs.Truncated have want) judged = (shows_to (runs.Truncated have want) judged.0, judged.1)
  shows_by ledger (runs.TooLong size) judged = (shows_to (runs.TooLong size) judged.0, judged.1)
  shows_by ledger runs.Read judged = keeps_up judged
  shows_by ledger runs.Write judged = tt
  shows_by ledger runs.Peer judged = tt
  shows_by ledger (runs.Collision kept given) judged = inl (meets_clash kept given judged)
  shows_by ledger runs.Memory judged = tt
  shows_by ledger runs.FileFailed judged = tt
  shows_by ledger e judged = shows_to e judged

  -- more was written and told behind what was judged
  module _ (out told : End (List ℕ)) (more lines : List ℕ) (wrote : Appends middle.output.tells out.tells more)
      (noted : Appends middle.notes.tells told.tells lines) where
    abbrev behind : Sides
    behind = sides_of before (record middle { output = out; notes = told })

    goes_on : IsPrompt judging task.lines bytes left old mid → LinesInTime answer bytes left behind
    goes_on prompt =
        let there = placed before middle (run_to judging bytes (length prompt.frames)) task.lines aside prompt.part prompt.written in
        let output = answer.output_for (length prompt.frames) in
        let on_side = answer.noted_for (length prompt.frames) in
        record {
          frames = prompt.frames;
          rest = prompt.rest;
          reads = prompt.reads;
          told = prompt.told;
          next = prompt.next;
          more = there.0.0 ++ more;
          output = subst (Appends at.old out.tells) (append_assoc output there.0.0 more)
              (Appends-trans at.old at.new out.tells (output ++ there.0.0) more there.0.1 wrote);
          noted = there.1.0 ++ lines;
          notes = subst (Appends at.told_old told.tells) (append_assoc on_side there.1.0 lines)
              (Appends-trans at.told_old at.told_new told.tells (on_side ++ there.1.0) lines there.1.1 noted);
        }

  -- nothing was
  pub shows_fault : (ledger : Ledger) (e : RunFault) → Judges judging task.lines bytes left old mid ledger (Err e) → WritesAnswer answer bytes left at (Err e)
  shows_fault ledger e judged =
      let front = placed_front before middle run task.lines aside judged.front in
      let end = end_by rules waiting task.ending run (fault_of judging bytes) in
      record {
        output = front_more on_output end.output at.old at.new front.0;
        notes = front_more on_notes end.noted at.told_old at.told_new front.1;
        prompt = goes_on middle.output middle.notes [] [] (Appends-nil middle.output.tells) (Appends-nil middle.notes.tells) judged.prompt;
        ends = shows_by ledger e judged.ends;
      }

  -- all blocks were judged, and then the end was written, or a prefix of it
  module _ (out told : End (List ℕ)) (refused : Bool) (ledger : Ledger) (judged : Judges judging task.lines bytes left old mid ledger (Ok refused))
      (end : AtEnd) (is : ending_of rules waiting task.ending run ≡ end) where
    abbrev last : Sides
    last = sides_of before (record middle { output = out; notes = told })

    end_is : end_by rules waiting task.ending run (fault_of judging bytes) ≡ end
    end_is = ap (end_by rules waiting task.ending run) judged.ends.fine ∙ is

    output_is : answer.output ≡ on_output ++ end.output
    output_is = ap (λ (e : AtEnd). on_output ++ e.output) end_is

    noted_is : answer.noted ≡ on_notes ++ end.noted
    noted_is = ap (λ (e : AtEnd). on_notes ++ e.noted) end_is

    there : Appends at.old at.new on_output × Appends at.told_old at.told_new on_notes
    there = placed_all before middle run task.lines aside judged.ends.written

    -- all frames are the first of the stream
    all_first : run ≡ run_to judging bytes (length (stream_of bytes).frames)
    all_first = let frames = (stream_of bytes).frames in
        sym (ap (λ (l : List (List ℕ)). history_of judging l) (take_all (length frames) frames (omega arith)))

    -- the nodes are of the map that a candidate would leave and of known ones
    meets_behind : (kept given : Node) → ClashesAt end ledger middle.output out middle.notes told kept given
        → MeetsClashBehind answer bytes left last kept given
    meets_behind kept given met = record {
      frames = (stream_of bytes).frames;
      reads = whole_read max_frames bytes (none_in run.is_full (stream_of bytes).fault judged.ends.fine);
      ended = judged.ends.ended;
      m = met.m;
      made = ap (λ (e : AtEnd). e.made) end_is ∙ met.made;
      output = subst (λ (h : History). Appends at.old last.new (written_by task.lines h)) all_first
          (subst (λ (new : Option (List ℕ)). Appends at.old new on_output) (sym met.still) there.0);
      notes = subst (λ (h : History). Appends at.told_old last.told_new (noted_by task.lines h)) all_first
          (subst (λ (new : Option (List ℕ)). Appends at.told_old new on_notes) (sym met.quiet) there.1);
      clash = subst (λ (h : History). ClashIn first_half met.m (maps_of h.accepted) kept given) all_first
          (clash_in first_half run.accepted ledger judged.ends.after met.m kept given met.clash (met.clash.2, met.clash.3));
    }

    ends_by : (came : Result ℕ RunFault) → WritesBy end ledger middle.output out middle.notes told came → IfErr came IsOfEnd
        → EndsBy answer bytes left last came
    ends_by (Ok status) by kind = (
      record {
        output = subst (Appends at.old out.tells) (sym output_is) (Appends-trans at.old at.new out.tells on_output end.output there.0 by.0);
        notes = subst (Appends at.told_old told.tells) (sym noted_is)
            (Appends-trans at.told_old at.told_new told.tells on_notes end.noted there.1 by.1);
        code = by.2 ∙ sym (ap (λ (e : AtEnd). e.status) end_is);
      },
      judged.ends.fine,
    )
    ends_by (Err runs.Write) by kind = tt
    ends_by (Err runs.Peer) by kind = tt
    ends_by (Err (runs.Collision kept given)) by kind = inr (meets_behind kept given by)
    ends_by (Err runs.Memory) by kind = tt
    ends_by (Err e) by kind = absurd kind

    pub finished : (result : Result ℕ RunFault) → WritesEnd end ledger middle.output out middle.notes told result
        → IfErr result IsOfEnd → WritesAnswer answer bytes left last result
    finished result wrote kind = record {
      output = front_behind answer.output at.old at.new out.tells on_output end.output output_is there.0 wrote.output;
      notes = front_behind answer.noted at.told_old at.told_new told.tells on_notes end.noted noted_is there.1 wrote.notes;
      prompt = goes_on out told wrote.output.0 wrote.notes.0 wrote.output.3 wrote.notes.3 judged.prompt;
      ends = ends_by result wrote.by kind;
    }

-- ---- what a journal with all blocks has at the end

right_head : (accepted : List Kept) (states : States) → AllByRecursion (IsKeptBlock accepted states) accepted → (head : Option BlockRecord)
    → head_of (records_of accepted) ≡ head
    → map_under states head ≡ map_behind accepted head
right_head accepted states kept None is = refl
right_head accepted states kept (Some block) is = of_head (IsRight accepted states) (records_of accepted) block (sym is)
    (all_right accepted states accepted kept)

-- what comes of batches behind the accepted blocks is what comes of them behind the head of the journal
same_publication : (rules : Rules) (waiting : Waiting) (accepted : List Kept) (ledger : Ledger) → IsAfter accepted ledger
    → publication_at rules waiting accepted ≡ publication_in rules waiting ledger
same_publication rules waiting accepted ledger after =
    let key = waiting.signing.key in
    let head = head_of (records_of accepted) in
    let same : map_behind accepted head ≡ map_before ledger.states (parent_at (records_of accepted)) =
    sym (right_head accepted ledger.states after.kept head refl) ∙ map_is ledger.states head in
    ap (λ (m : StateMap). publication_of rules key m (ids_in (head_branch (records_of accepted))) waiting.batches) same
    ∙ ap (λ (blocks : List BlockRecord). publication_of rules key (map_before ledger.states (parent_at blocks)) (ids_in (head_branch blocks)) waiting.batches)
    (sym after.blocks)

end_same : (judging : Judging) (rules : Rules) (waiting : Waiting) (lines : Lines) (ending : Ending) (bytes : List ℕ) (left old mid : Option (List ℕ)) (refused : Bool)
    (ledger : Ledger) → JudgesAll judging lines bytes left old mid refused ledger
    → ending_of rules waiting ending (run_of judging bytes) ≡ end_at rules waiting ending ledger refused
end_same judging rules waiting lines Head bytes left first others refused ledger judged =
    ap (λ (blocks : List BlockRecord). plain_end (head_line (head_of blocks)) (status_by (some_refused (run_of judging bytes).said))) (sym judged.after.blocks)
    ∙ ap (λ (some : Bool). plain_end (head_line (head_of ledger.blocks)) (status_by some)) (sym judged.some)
end_same judging rules waiting lines (Entries prefix) bytes left first others refused ledger judged =
    let blocks = records_of (run_of judging bytes).accepted in
    let same : map_behind (run_of judging bytes).accepted (head_of blocks) ≡ map_under ledger.states (head_of ledger.blocks) =
    sym (right_head (run_of judging bytes).accepted ledger.states judged.after.kept (head_of blocks) refl)
    ∙ ap (λ (all : List BlockRecord). map_under ledger.states (head_of all)) (sym judged.after.blocks) in
    ap (λ (m : StateMap). plain_end (listing prefix m) (listing_status prefix m)) same
end_same judging rules waiting lines Receipts bytes left first others refused ledger judged =
    ap (λ (blocks : List BlockRecord). plain_end (receipts_text blocks) (receipts_status blocks)) (sym judged.after.blocks)
end_same judging rules waiting lines (Batch id) bytes left first others refused ledger judged =
    ap (λ (blocks : List BlockRecord). plain_end (batch_text id blocks) (batch_status id blocks)) (sym judged.after.blocks)
end_same judging rules waiting lines (Proof address) bytes left first others refused ledger judged =
    let blocks = records_of (run_of judging bytes).accepted in
    let same : map_behind (run_of judging bytes).accepted (head_of blocks) ≡ map_under ledger.states (head_of ledger.blocks) =
    sym (right_head (run_of judging bytes).accepted ledger.states judged.after.kept (head_of blocks) refl)
    ∙ ap (λ (all : List BlockRecord). map_under ledger.states (head_of all)) (sym judged.after.blocks) in
    ap₂ (λ (head : Option BlockRecord) (m : StateMap). plain_end (proof_text rules.hash address head m) (proof_status head))
    (ap head_of (sym judged.after.blocks)) same
end_same judging rules waiting lines (Events known wish) bytes left first others refused ledger judged =
    ap (λ (blocks : List BlockRecord). plain_end (events_text known wish blocks) (events_status known wish blocks)) (sym judged.after.blocks)
end_same judging rules waiting lines Candidate bytes left first others refused ledger judged =
    let accepted = (run_of judging bytes).accepted in
    let end : List BlockRecord → Bool → Publication → AtEnd = λ blocks some publication. record {
      output = candidate_text rules.hash waiting.signing (parent_at blocks) publication;
      noted = losses_text publication;
      status = candidate_status some publication;
      made = map_left publication;
    } in
    ap (end (records_of accepted) (some_refused (run_of judging bytes).said)) (same_publication rules waiting accepted ledger judged.after)
    ∙ ap (λ (blocks : List BlockRecord). end blocks (some_refused (run_of judging bytes).said) (publication_in rules waiting ledger)) (sym judged.after.blocks)
    ∙ ap (λ (some : Bool). end ledger.blocks some (publication_in rules waiting ledger)) (sym judged.some)

-- ---- what was done

-- the lines on the notes, by whether the task has them there
noted_by_lines : (lines : Lines) (before after : Outside) → other_side lines after ≡ other_side lines before → (written : List ℕ)
    → Appends (lines_side lines before).tells (lines_side lines after).tells written
    → (told : List ℕ) × (lines ≡ All → told ≡ []) × Appends before.notes.tells after.notes.tells told
noted_by_lines All before after aside written wrote = ([], λ same. refl, unmoved before.notes after.notes aside)
noted_by_lines Refused before after aside written wrote = (written, λ same. absurd cc, wrote)

later_notes : (lines : Lines) (before after : Outside) → other_side lines after ≡ other_side lines before
    → (lines_side lines before).faults ≤ (lines_side lines after).faults → before.notes.faults ≤ after.notes.faults
later_notes All before after aside later = let same : after.notes.faults ≡ before.notes.faults = ap (λ (e : End (List ℕ)). e.faults) aside in omega arith
later_notes Refused before after aside later = later

later_output : (lines : Lines) (before after : Outside) → other_side lines after ≡ other_side lines before
    → (lines_side lines before).faults ≤ (lines_side lines after).faults → before.output.faults ≤ after.output.faults
later_output All before after aside later = later
later_output Refused before after aside later = let same : after.output.faults ≡ before.output.faults = ap (λ (e : End (List ℕ)). e.faults) aside in omega arith

either_side : (lines : Lines) (before after : Outside) → Rose (lines_side lines before).faults (lines_side lines after).faults
    → Rose before.output.faults after.output.faults ⊎ Rose before.notes.faults after.notes.faults
either_side All before after rose = inl rose
either_side Refused before after rose = inr rose

-- nothing was written yet
unwritten : (lines : Lines) (before after : Outside) → other_side lines after ≡ other_side lines before → (noted : List ℕ)
    → TellsFirst lines noted (sides_of before after)
unwritten All before after aside noted = tt
unwritten Refused before after aside noted = inl (ap (λ (e : End (List ℕ)). e.tells) aside)

-- all was told before anything was written
told_first : (lines : Lines) (before middle : Outside) → other_side lines middle ≡ other_side lines before → (out told : End (List ℕ))
    (noted on_notes more : List ℕ) → noted ≡ on_notes ++ more → Appends before.notes.tells middle.notes.tells on_notes
    → (out.tells ≡ middle.output.tells) ⊎ Appends middle.notes.tells told.tells more
    → TellsFirst lines noted (sides_of before (record middle { output = out; notes = told }))
told_first All before middle aside out told noted on_notes more is first order = tt
told_first Refused before middle aside out told noted on_notes more is first (inl same) = inl (same ∙ ap (λ (e : End (List ℕ)). e.tells) aside)
told_first Refused before middle aside out told noted on_notes more is first (inr wrote) =
    inr (subst (Appends before.notes.tells told.tells) (sym is) (Appends-trans before.notes.tells middle.notes.tells told.tells on_notes more first wrote))

both_none : (first others : List ℕ) → first ≡ [] → others ≡ [] → first ++ others ≡ []
both_none first others none nothing = rw (none, nothing) refl

module _ (processors : Processors) (own : HasOwnReasons processors) (task : Task) (accepts : Accepts) (signing : Signing)
    (batches : List BatchMessage) (before : Outside) where
  abbrev ready : Prepared
  ready = ready_with accepts signing batches

  cause_of : (after : Outside) (e : RunFault) → IsOfStream e → TellsAlike e → (e ≡ runs.Read → Rose before.input.faults after.input.faults)
      → (e ≡ runs.Write → Rose before.output.faults after.output.faults ⊎ Rose before.notes.faults after.notes.faults)
      → (e ≡ runs.Peer → SomeRose before.remotes after.remotes)
      → HasCause processors task (Ok ready) before after (Err e)
  cause_of after runs.Words kind alike read write peer = absurd cc
  cause_of after runs.FileMissing kind alike read write peer = absurd cc
  cause_of after runs.FileTooLong kind alike read write peer = absurd cc
  cause_of after runs.FileFailed kind alike read write peer = absurd cc
  cause_of after (runs.BadLine line) kind alike read write peer = absurd cc
  cause_of after runs.BadList kind alike read write peer = absurd cc
  cause_of after runs.Read kind alike read write peer = ((ready, refl), read refl)
  cause_of after runs.Write kind alike read write peer = ((ready, refl), write refl)
  cause_of after runs.Peer kind alike read write peer = (inl (ready, refl), peer refl)
  cause_of after (runs.Collision kept given) kind alike read write peer = ((ready, refl), alike)
  cause_of after runs.Memory kind alike read write peer = tt
  cause_of after e kind alike read write peer = (ready, refl)

  module _ (middle : Outside) (ledger : Ledger) where
    abbrev JudgedBy : (ℕ → Runs) → Result Bool RunFault → List ℕ → Type 0
    JudgedBy blocks result bytes = Judges (by_ways accepts blocks) task.lines bytes middle.input.tells (lines_side task.lines before).tells
        (lines_side task.lines middle).tells ledger result

    -- what is shown of the bytes, where they are told
    shown_to : (ways : Ways) (result : Result Bool RunFault) (after : Outside) (came : Result ℕ RunFault) (first : Option (List ℕ))
        → IfSome first (JudgedBy ways.blocks result)
        → ((bytes : List ℕ) → JudgedBy ways.blocks result bytes → WritesAnswerOf processors task (Ok ready) before after came ways bytes)
        → IfSome first (WritesAnswerOf processors task (Ok ready) before after came ways)
    shown_to ways result after came None judged shows = tt
    shown_to ways result after came (Some bytes) judged shows = shows bytes judged

    -- the judging ended it
    pub does_to : (e : RunFault) → JudgesFor processors accepts task.lines before middle ledger (Err e)
        → DoesTask processors task (Ok ready) before middle (Err e)
    does_to e judged =
        let noted = noted_by_lines task.lines before middle judged.aside judged.wrote.0 judged.wrote.1 in
        record {
          cause = cause_of middle e judged.kind judged.nodes (λ is. judged.input (ap Err is))
              (λ is. either_side task.lines before middle (judged.output (ap Err is))) (λ is. judged.peer (ap Err is));
          lines = noted.0;
          aside = λ is. noted.1 is.0;
          noted = noted.2;
          later = later_notes task.lines before middle judged.aside judged.later;
          ways = ways;
          may = may;
          shows = shows;
          told = shows_told processors ways may task (Ok ready) before middle (Err e) before.input.tells shows;
        }
      where
        -- no batch was published
        ways : Ways
        ways = record { blocks = judged.judges.ways; candidate = (serially processors).candidate }

        may : AreWays processors ways
        may = record { blocks = judged.judges.may; candidate = (serial_may processors own).candidate }

        shows : IfSome before.input.tells (WritesAnswerOf processors task (Ok ready) before middle (Err e) ways)
        shows = shown_to ways (Err e) middle (Err e) before.input.tells judged.judges.so
            (λ bytes found. (
              shows_fault (judging_by accepts ways) (rules_with first_half accepts ways.candidate) ready.waiting task bytes middle.input.tells before middle
                  judged.aside ledger e found,
              unwritten task.lines before middle judged.aside (answer_for ways task (Ok ready) bytes).noted,
            ))

    -- the end was written behind all blocks, or a prefix of it
    module _ (refused : Bool) (judged : JudgesFor processors accepts task.lines before middle ledger (Ok refused)) (out told : End (List ℕ))
        (counts : List ℕ) (since : SomeRose middle.remotes counts → SomeRose before.remotes counts) (result : Result ℕ RunFault)
        (finish : Finishes processors accepts ready.waiting task.ending ledger refused middle.output out middle.notes told middle.remotes counts result) where
      abbrev after : Outside
      after = record middle { output = out; notes = told; remotes = counts }

      cause_by : (result : Result ℕ RunFault) → IfOk result (IsDone task.ending) → IfErr result IsOfEnd
          → (IsErrOf result runs.Write → Rose middle.output.faults out.faults ⊎ Rose middle.notes.faults told.faults)
          → (IsErrOf result runs.Peer → SomeRose middle.remotes counts) → HasCause processors task (Ok ready) before after result
      cause_by (Ok status) done kind write peer = ((ready, refl), done)
      cause_by (Err runs.Write) done kind write peer = ((ready, refl), since_middle (write refl))
        where
          since_middle : Rose middle.output.faults out.faults ⊎ Rose middle.notes.faults told.faults
              → Rose before.output.faults out.faults ⊎ Rose before.notes.faults told.faults
          since_middle (inl rose) =
              let first : before.output.faults ≤ middle.output.faults = later_output task.lines before middle judged.aside judged.later in
              inl (omega (arith, first, rose))
          since_middle (inr rose) =
              let first : before.notes.faults ≤ middle.notes.faults = later_notes task.lines before middle judged.aside judged.later in
              inr (omega (arith, first, rose))
      cause_by (Err runs.Peer) done kind write peer = (inl (ready, refl), since (peer refl))
      cause_by (Err (runs.Collision kept given)) done kind write peer = ((ready, refl), kind)
      cause_by (Err runs.Memory) done kind write peer = tt
      cause_by (Err e) done kind write peer = absurd kind

      -- the blocks' batches and those that were published, as they were run
      abbrev ways : Ways
      ways = record { blocks = judged.judges.ways; candidate = finish.way }

      may : AreWays processors ways
      may = record { blocks = judged.judges.may; candidate = finish.may }

      shown_at : (bytes : List ℕ) → JudgedBy judged.judges.ways (Ok refused) bytes → WritesAnswerOf processors task (Ok ready) before after result ways bytes
      shown_at bytes j =
          let judging = judging_by accepts ways in
          let rules = rules_with first_half accepts finish.way in
          let end = end_at rules ready.waiting task.ending ledger refused in
          let same = end_same judging rules ready.waiting task.lines task.ending bytes middle.input.tells (lines_side task.lines before).tells
          (lines_side task.lines middle).tells refused ledger j.ends in (
            finished judging rules ready.waiting task bytes middle.input.tells before middle judged.aside out told refused ledger j end same result
                finish.writes finish.kind,
            told_first task.lines before middle judged.aside out told (task_answer judging rules ready.waiting task bytes).noted
                (noted_by task.lines (run_of judging bytes)) end.noted
                (noted_is judging rules ready.waiting task bytes middle.input.tells before middle judged.aside out told refused ledger j end same)
                (there judging rules ready.waiting task bytes middle.input.tells before middle judged.aside out told refused ledger j end same).1
                finish.writes.order,
          )

      shows : IfSome before.input.tells (WritesAnswerOf processors task (Ok ready) before after result ways)
      shows = shown_to ways (Ok refused) after result before.input.tells judged.judges.so shown_at

      pub does_all : DoesTask processors task (Ok ready) before after result
      does_all =
          let noted = noted_by_lines task.lines before middle judged.aside judged.wrote.0 judged.wrote.1 in
          let first : before.notes.faults ≤ middle.notes.faults = later_notes task.lines before middle judged.aside judged.later in
          record {
            cause = cause_by result finish.done finish.kind finish.rose finish.peer;
            lines = noted.0 ++ finish.lines;
            aside = λ is. both_none noted.0 finish.lines (noted.1 is.0) (finish.aside is.1);
            noted = Appends-trans before.notes.tells middle.notes.tells told.tells noted.0 finish.lines noted.2 finish.noted;
            later = omega (arith, first, finish.later);
            ways = ways;
            may = may;
            shows = shows;
            told = shows_told processors ways may task (Ok ready) before after result before.input.tells shows;
          }

  -- nothing was judged, since memory was refused
  pub does_nothing : (held : End Files) → DoesTask processors task (Ok ready) before (record before { shelf = held }) (Err runs.Memory)
  does_nothing held = does_to (record before { shelf = held }) none runs.Memory (judges task.lines)
    where
      none : Ledger
      none = record { blocks = []; states = finite.empty; limit = 0 }

      judges : (lines : Lines) → JudgesFor processors accepts lines before (record before { shelf = held }) none (Err runs.Memory)
      judges All = record {
        judges = nothing_judged processors accepts All (serially processors).blocks (serial_may processors own).blocks before.input.tells before.output.tells none;
        aside = refl;
        wrote = ([], Appends-nil before.output.tells);
        kind = refl;
        nodes = tt;
        input = λ is. absurd cc;
        output = λ is. absurd cc;
        later = omega arith;
        peer = λ is. absurd cc;
      }
      judges Refused = record {
        judges = nothing_judged processors accepts Refused (serially processors).blocks (serial_may processors own).blocks before.input.tells before.notes.tells none;
        aside = refl;
        wrote = ([], Appends-nil before.notes.tells);
        kind = refl;
        nodes = tt;
        input = λ is. absurd cc;
        output = λ is. absurd cc;
        later = omega arith;
        peer = λ is. absurd cc;
      }
