-- Where the judging of a stream stands between two frames, and what each of its ends shows.
use Rattle.std.proofs.Common.{◌≡◌, ◌⊎◌, inl, inr, ℕ, ◌+◌, ◌-◌, ◌<◌, ◌≤◌, ◌==◌, Bool, true, false, List, [], ◌∷◌, ◌++◌, length, take, drop, Option}
use Rattle.std.proofs.Common.{Some, None, Result, Ok, Err, refl, sym, ap, subst, ◌∙◌, append_assoc, arith}
use Rattle.std.specs.Prelude.{IfSome, ◌||◌, slice_get}
use Rattle.std.specs.FinMap as finite
use Rattle.std.specs.Global.{Vec}
use Rattle.std.specs.Io.KnownBytes.{Appends, Consumes, IsAtEnd}
use Rattle.std.proofs.KnownBytes.{Appends-trans, Appends-nil, Consumes-nil}
use Rattle.std.proofs.lemmas.List.{append-nil, length-append, take-append-drop, take-append-le, take_all}
use Rattle.std.proofs.lemmas.List.Folds.{list_any-append}
use Rattle.saw_address.specs.Maps.{StateMap, no_entries}
use Rattle.saw_io.specs.Frame.{FrameGives, IsPart, Takes, frame_at}
use Rattle.saw_io.specs.declared.fault.FrameFault.{FrameFault}
use Rattle.saw_io.specs.declared.fault.FrameFault.TheVariants as frames
use Rattle.saw_journal.specs.Clashing.{Clashes}
use Rattle.saw_journal.specs.Judgement.{Kept, Rules, would_leave}
use Rattle.saw_journal.specs.Ledger.{IsFull, Ledger, Says, map_under}
use Rattle.saw_merkle.specs.Clashes.{IsClashFor, IsNodeOfBoth}
use Rattle.saw_merkle.specs.States.{Stays}
use Rattle.saw_node.specs.Hashes.{first_half}
use Rattle.saw_node.specs.Nodes.{Shape, shape_of}
use Rattle.saw_node.specs.Trees.{IsNodeOf}
use Rattle.saw_node.specs.Contents.{Node}
use Rattle.saw_context.specs.Outcome.{Processors}
use Rattle.saw_receipts.specs.Running.{Runs, RunsBy}
use Rattle.saw_receipts.specs.declared.verdict.Verdict.{Verdict}
use Rattle.saw_report.specs.RunFaults.{fault_of_frame}
use Rattle.saw_store.specs.declared.fault.StoreFault.TheVariants as stores
use Rattle.saw_top.specs.History.{History, IsAmong, Said, ended, history, is_refused, maps_of, some_refused, tried}
use Rattle.saw_top.specs.History as histories
use Rattle.saw_top.specs.StreamJudging.{IsPrompt, IsUpToDate, Judges, JudgesBy, JudgesSomehow, JudgesTo, StopsAtClash, TakesNext, report_in, report_to}
use Rattle.saw_top.specs.Clashing.{AreAlike, ClashIn, ClashesBy, LeavesUnjudged}
use Rattle.saw_top.specs.Following.{cuts}
use Rattle.saw_top.specs.Limits.{max_frames, max_length}
use Rattle.saw_top.specs.Outside.{WritesFront}
use Rattle.saw_top.specs.Reports.{line_of, report, said_of}
use Rattle.saw_top.specs.Run.{fault_in, fault_of, run_of}
use Rattle.saw_top.specs.KeptBlocks.{IsAfter}
use Rattle.saw_top.specs.Stream.{Reads, Stream, before, no_frames, stream_from, stream_of}
use Rattle.saw_report.specs.declared.run_fault.RunFault.{RunFault}
use Rattle.saw_report.specs.declared.run_fault.RunFault.TheVariants.{Truncated, TooLong, Frames, Blocks, Read, Write, Peer, Collision, Memory}
use Rattle.saw_top.specs.declared.task.Lines.{Lines}
use Rattle.saw_top.specs.World.{Accepts, Judging, rules_at, rules_with}
use Rattle.saw_top.proofs.Histories.{after, before_put, behind_first, by_ways, length-said, put, put_may, put_there, report-behind, tried_first}
use Rattle.saw_top.proofs.Judgements.{left_same}
use Rattle.saw_top.proofs.Steps.{Steps, no_room, steps}
use Rattle.saw_top.proofs.Streams.{Reads-push, all_before, at_end, nothing_at, stream_ended, stream_faulty, stream_full, stream_goes_on, stream_some, stream_too_many}

-- ---- prefixes of a text

-- a piece of which a part was written
pub front_cut : (text : List ℕ) (old mid new : Option (List ℕ)) (written piece more : List ℕ) (n : ℕ) → text ≡ written ++ (piece ++ more)
    → Appends old mid written → Appends mid new (take n piece) → WritesFront text old new
front_cut text old mid new written piece more n whole first second =
    let split : piece ++ more ≡ take n piece ++ (drop n piece ++ more) = ap (λ (l : List ℕ). l ++ more) (sym (take-append-drop n piece))
    ∙ append_assoc (take n piece) (drop n piece) more in
    let parts : text ≡ (written ++ take n piece) ++ (drop n piece ++ more) = whole ∙ ap (λ (l : List ℕ). written ++ l) split
    ∙ sym (append_assoc written (take n piece) (drop n piece ++ more)) in
    (written ++ take n piece, drop n piece ++ more, parts, Appends-trans old mid new written (take n piece) first second)

-- ---- nodes that collide

module _ (hash : List ℕ → List ℕ) (accepted : List Kept) (ledger : Ledger) (after : IsAfter accepted ledger) (m : StateMap) where
  -- a node of a known map is one of the empty map or of an accepted block's
  kept_in : (node : Shape) → IsNodeOfBoth hash ledger.states m node
      → (of : StateMap) × ((of ≡ m) ⊎ ((of ≡ no_entries) ⊎ IsAmong of (maps_of accepted))) × IsNodeOf hash (finite.entries of) node
  kept_in node (inl known) = (known.m, inr (after.known known.root known.m known.known), known.is)
  kept_in node (inr is) = (m, inl refl, is)

  pub clash_in : (kept given : Node) → IsClashFor hash ledger.states m (stores.Collision kept given) → AreAlike kept given
      → ClashIn hash m (maps_of accepted) kept given
  clash_in kept given clash alike = record { given_of = clash.0; kept_of = kept_in (shape_of kept) clash.1; alike = alike }

-- ---- where the judging stands

length-push : (frames : List (List ℕ)) (content : List ℕ) → length (frames ++ content ∷ []) ≡ length frames + 1
length-push frames content = length-append frames (content ∷ [])

or_false : (b c : Bool) → (b || (c || false)) ≡ (b || c)
or_false true c = refl
or_false false true = refl
or_false false false = refl

module _ (judging : Judging) (lines : Lines) where
  abbrev so_far : List (List ℕ) → History
  so_far frames = history judging 0 frames []

  abbrev report_on : List (List ℕ) → List ℕ
  report_on frames = report lines 0 (so_far frames).said

  -- before the frame at this place is read; what is said so far was heard
  pub record IsAt (Heard : List Said → Type 0) (place : ℕ) (bytes : List ℕ) (now old new : Option (List ℕ)) (refused : Bool) (ledger : Ledger) : Type 0 where
    pub frames : List (List ℕ)
    pub rest : List ℕ
    pub left : now ≡ Some rest
    pub count : length frames ≡ place
    pub reads : Reads frames bytes rest
    pub room : (history judging 0 frames []).is_full ≡ false
    pub written : Appends old new (report lines 0 (history judging 0 frames []).said)
    pub some : refused ≡ some_refused (history judging 0 frames []).said
    pub stands : IsAfter (history judging 0 frames []).accepted ledger
    pub heard : Heard (history judging 0 frames []).said

  -- ---- what is shown of a stream, by where its judging stands

  module _ {Heard : List Said → Type 0} {place : ℕ} {bytes : List ℕ} {now old mid : Option (List ℕ)} {refused : Bool} {ledger : Ledger}
      (at : IsAt Heard place bytes now old mid refused ledger) where
    abbrev seen : History
    seen = so_far at.frames

    -- the judging ended so, and nothing more was written
    abbrev Ends : Option (List ℕ) → Ledger → Result Bool RunFault → Type 0
    Ends next after_it result = Judges judging lines bytes next old mid after_it result

    abbrev reported : List ℕ
    reported = report_on at.frames

    -- the stream goes on so behind the frames that were read
    abbrev FollowedBy : Stream → Type 0
    FollowedBy others = stream_of bytes ≡ all_before at.frames others

    abbrev behind : Stream → History
    behind others = history judging (length at.frames) others.frames seen.accepted

    run_at : (others : Stream) → FollowedBy others → run_of judging bytes ≡ after seen (behind others)
    run_at others is = ap (λ (s : Stream). so_far s.frames) is ∙ behind_first judging at.frames others.frames at.room

    report_at : (others : Stream) → FollowedBy others → report_in judging lines bytes ≡ reported ++ report lines (length at.frames) (behind others).said
    report_at others is = ap (λ (s : Stream). report_on s.frames) is ∙ report-behind lines judging at.frames others.frames at.room

    fault_at : (others : Stream) → FollowedBy others → fault_of judging bytes ≡ fault_in (behind others) others.fault
    fault_at others is =
        ap (λ (run : History). fault_in run (stream_of bytes).fault) (run_at others is) ∙ ap (λ (s : Stream). fault_in (behind others) s.fault) is

    -- nothing stands behind them
    module _ (fault : Option RunFault) (is : FollowedBy (no_frames fault)) where
      run_last : run_of judging bytes ≡ seen
      run_last = ap (λ (s : Stream). so_far s.frames) is ∙ ap so_far (append-nil at.frames)

      fault_last : fault_of judging bytes ≡ fault
      unfolding history
      fault_last = fault_at (no_frames fault) is

      written_last : Appends old mid (report_in judging lines bytes)
      written_last = subst (Appends old mid) (sym (ap (λ (run : History). report lines 0 run.said) run_last)) at.written

    -- a front was written, and each frame that was read has a verdict
    front_here : place ≤ max_frames → WritesFront (report_in judging lines bytes) old mid × (length at.frames ≤ length (run_of judging bytes).said)
    front_here fits =
        let some = stream_some max_frames at.frames bytes at.rest at.reads (omega (arith, at.count)) in
        let others : Stream = record { frames = some.0; fault = some.1 } in
        let more = (behind others).said in
        let count : length (run_of judging bytes).said ≡ length seen.said + length more = ap (λ (h : History). length h.said) (run_at others some.2)
        ∙ length-append seen.said more in
        ((reported, _, report_at others some.2, at.written), omega (arith, count, length-said judging at.frames 0 [] at.room))

    -- what is said of the whole stream begins with what was said
    pub said_first : place ≤ max_frames → (more : List Said) × ((run_of judging bytes).said ≡ seen.said ++ more)
    said_first fits =
        let some = stream_some max_frames at.frames bytes at.rest at.reads (omega (arith, at.count)) in
        let others : Stream = record { frames = some.0; fault = some.1 } in
        ((behind others).said, ap (λ (h : History). h.said) (run_at others some.2))

    -- and it is all of it where nothing stands behind the frames
    said_last : (fault : Option RunFault) → FollowedBy (no_frames fault) → (run_of judging bytes).said ≡ seen.said
    said_last fault is = ap (λ (h : History). h.said) (run_last fault is)

    pub fault_said : (next : Option (List ℕ)) (e : FrameFault) → FrameGives max_length now next (Err e) → place < max_frames
        → cuts (fault_of_frame e) ≡ false → (run_of judging bytes).said ≡ seen.said
    fault_said next (frames.Truncated have want) told below whole =
        said_last (Some (Truncated have want))
        (stream_faulty max_frames at.frames bytes at.rest at.reads (omega (arith, at.count)) (frames.Truncated have want) (rw at.left at told))
    fault_said next (frames.TooLong size) told below whole =
        said_last (Some (TooLong size))
        (stream_faulty max_frames at.frames bytes at.rest at.reads (omega (arith, at.count)) (frames.TooLong size) (rw at.left at told))
    fault_said next frames.ReadFailed told below whole = absurd cc
    fault_said next frames.OutOfMemory told below whole = absurd cc

    pub end_said : (next : Option (List ℕ)) → place < max_frames → FrameGives max_length now next (Ok None) → (run_of judging bytes).said ≡ seen.said
    end_said next below told =
        let read = rw at.left at told in
        said_last None (stream_ended max_frames at.frames bytes at.rest at.reads (omega (arith, at.count)) read.0 read.2)

    pub full_said : place ≤ max_frames → max_frames ≤ place → IfSome now (λ left. true ≡ (length left == 0)) → (run_of judging bytes).said ≡ seen.said
    full_said fits over none =
        let test : true ≡ (length at.rest == 0) = rw at.left at none in
        said_last None (stream_full max_frames at.frames bytes at.rest at.reads (omega (arith, at.count)) (omega (arith, at.count)) (sym test))

    pub over_said : place ≤ max_frames → max_frames ≤ place → IfSome now (λ left. false ≡ (length left == 0)) → (run_of judging bytes).said ≡ seen.said
    over_said fits over some =
        let test : false ≡ (length at.rest == 0) = rw at.left at some in
        said_last (Some Frames)
        (stream_too_many max_frames at.frames bytes at.rest at.reads (omega (arith, at.count)) (omega (arith, at.count)) (sym test))

    -- these frames are the first of the stream
    front_is : place ≤ max_frames → take (length at.frames) (stream_of bytes).frames ≡ at.frames
    front_is fits =
        let some = stream_some max_frames at.frames bytes at.rest at.reads (omega (arith, at.count)) in
        ap (λ (s : Stream). take (length at.frames) s.frames) some.2 ∙ take-append-le (length at.frames) at.frames some.0 (omega arith)
        ∙ take_all (length at.frames) at.frames (omega arith)

    report_there : place ≤ max_frames → reported ≡ report_to judging lines bytes (length at.frames)
    report_there fits = sym (ap report_on (front_is fits))

    prompt_here : (next new : Option (List ℕ)) (part : List ℕ) → place ≤ max_frames → TakesNext place at.rest next → Appends old new (reported ++ part)
        → IsPrompt judging lines bytes next old new
    prompt_here next new part fits taken written = record {
      frames = at.frames;
      rest = at.rest;
      reads = at.reads;
      told = (front_here fits).1;
      next = subst (λ (n : ℕ). TakesNext n at.rest next) (sym at.count) taken;
      part = part;
      written = subst (λ (l : List ℕ). Appends old new (l ++ part)) (report_there fits) written;
    }

    -- nothing more was written
    ends_here : (next : Option (List ℕ)) (after_it : Ledger) (result : Result Bool RunFault) → place ≤ max_frames → TakesNext place at.rest next
        → JudgesBy judging lines bytes next old mid after_it result → Ends next after_it result
    ends_here next after_it result fits taken ends = record {
      front = (front_here fits).0;
      prompt = prompt_here next mid [] fits taken (subst (Appends old mid) (sym (append-nil reported)) at.written);
      ends = ends;
    }

    rest_taken : (next : Option (List ℕ)) (taken : List ℕ) → Consumes now next taken → Consumes (Some at.rest) next taken
    rest_taken next taken consumed = subst (λ o. Consumes o next taken) at.left consumed

    up_to_date : (next : Option (List ℕ)) → place ≤ max_frames → (taken : List ℕ) → Consumes (Some at.rest) next taken → IsPart taken
        → IsUpToDate judging lines bytes next old mid
    up_to_date next fits taken consumed part = record {
      frames = at.frames;
      rest = at.rest;
      reads = at.reads;
      told = (front_here fits).1;
      few = omega (arith, at.count);
      taken = taken;
      consumed = consumed;
      part = part;
      written = subst (Appends old mid) (report_there fits) at.written;
    }

    -- a fault of the bytes themselves
    shown_fault : (fault : RunFault) → FollowedBy (no_frames (Some fault)) → JudgesTo judging lines bytes old mid fault
    shown_fault fault is = (fault_last (Some fault) is, written_last (Some fault) is)

    -- ---- a read that gave no frame

    pub read_fault : (next : Option (List ℕ)) (e : FrameFault) → place < max_frames → FrameGives max_length now next (Err e) → (taken : List ℕ)
        → Consumes now next taken → Takes e taken next
        → Ends next ledger (Err (fault_of_frame e))
    read_fault next e below told taken consumed takes = by_fault e told takes
      where
        rest : Consumes (Some at.rest) next taken
        rest = rest_taken next taken consumed

        took : (length taken ≤ 4) ⊎ IsPart taken → TakesNext place at.rest next
        took few = inl (below, inl (taken, rest, few))

        faulty : (e : FrameFault) → frame_at max_length at.rest ≡ Err e → FollowedBy (no_frames (Some (fault_of_frame e)))
        faulty e is = stream_faulty max_frames at.frames bytes at.rest at.reads (omega (arith, at.count)) e is

        by_fault : (e : FrameFault) → FrameGives max_length now next (Err e) → Takes e taken next → Ends next ledger (Err (fault_of_frame e))
        by_fault (frames.Truncated have want) told takes =
            ends_here next ledger (Err (Truncated have want)) (omega arith) (took (inr takes.0))
            (shown_fault (Truncated have want) (faulty (frames.Truncated have want) (rw at.left at told)), takes.1)
        by_fault (frames.TooLong size) told takes =
            ends_here next ledger (Err (TooLong size)) (omega arith) (took (inl (omega (arith, takes))))
            (shown_fault (TooLong size) (faulty (frames.TooLong size) (rw at.left at told)), (at.frames, at.rest, at.reads, taken, rest, takes))
        by_fault frames.ReadFailed told takes = ends_here next ledger (Err Read) (omega arith) (took (inr takes))
            (up_to_date next (omega arith) taken rest takes)
        by_fault frames.OutOfMemory told takes = ends_here next ledger (Err Memory) (omega arith) (took (inl (omega (arith, takes)))) tt

    -- the byte behind the last frame could not be read
    pub probe_fault : (next : Option (List ℕ)) → place ≤ max_frames → max_frames ≤ place → (taken : List ℕ) → Consumes now next taken → length taken < 1
        → Ends next ledger (Err Read)
    probe_fault next fits over taken consumed few =
        let rest = rest_taken next taken consumed in
        ends_here next ledger (Err Read) fits (inr (omega arith, taken, rest, omega arith)) (up_to_date next fits taken rest (inl (omega arith)))

    pub too_many : (next : Option (List ℕ)) → place ≤ max_frames → max_frames ≤ place → IfSome now (λ left. false ≡ (length left == 0)) → (taken : List ℕ)
        → Consumes now next taken → length taken ≤ 1
        → Ends next ledger (Err Frames)
    too_many next fits over some taken consumed few =
        let test : false ≡ (length at.rest == 0) = rw at.left at some in
        ends_here next ledger (Err Frames) fits (inr (omega arith, taken, rest_taken next taken consumed, few))
        (shown_fault Frames (stream_too_many max_frames at.frames bytes at.rest at.reads (omega (arith, at.count)) (omega (arith, at.count)) (sym test)))

    -- ---- the end of the stream

    ended_all : (next : Option (List ℕ)) → place ≤ max_frames → TakesNext place at.rest next → IsAtEnd next → FollowedBy (no_frames None)
        → Ends next ledger (Ok refused)
    ended_all next fits taken ended is =
        let run = run_last None is in
        ends_here next ledger (Ok refused) fits taken (record {
          fine = fault_last None is;
          ended = ended;
          written = written_last None is;
          some = at.some ∙ sym (ap (λ (h : History). some_refused h.said) run);
          after = subst (λ (h : History). IsAfter h.accepted ledger) (sym run) at.stands;
        })

    pub no_more : (next : Option (List ℕ)) → place < max_frames → FrameGives max_length now next (Ok None) → Ends next ledger (Ok refused)
    no_more next below told =
        let read = rw at.left at told in
        ended_all next (omega arith) (inl (below, inr (None, read.0, read.2, read.1)))
        (subst IsAtEnd (sym read.1) (nothing_at max_length at.rest read.0 read.2).1)
        (stream_ended max_frames at.frames bytes at.rest at.reads (omega (arith, at.count)) read.0 read.2)

    -- behind as many frames as may be
    pub all_there : (next : Option (List ℕ)) → place ≤ max_frames → max_frames ≤ place → IfSome now (λ left. true ≡ (length left == 0)) → (taken : List ℕ)
        → Consumes now next taken → length taken ≤ 1
        → Ends next ledger (Ok refused)
    all_there next fits over none taken consumed few =
        let test : true ≡ (length at.rest == 0) = rw at.left at none in
        ended_all next fits (inr (omega arith, taken, rest_taken next taken consumed, few))
        (at_end at.rest next taken test (rest_taken next taken consumed))
        (stream_full max_frames at.frames bytes at.rest at.reads (omega (arith, at.count)) (omega (arith, at.count)) (sym test))

    -- ---- a frame that was read

    module _ (next : Option (List ℕ)) (content : Vec ℕ) (below : place < max_frames) (told : FrameGives max_length now next (Ok (Some content))) where
      abbrev others : Stream
      others = stream_from (max_frames - length at.frames - 1) (rw at.left at told).0

      goes_on : FollowedBy (before content.items others)
      goes_on =
          let read = rw at.left at told in
          stream_goes_on max_frames at.frames bytes at.rest at.reads (omega (arith, at.count)) content.items read.0 read.2

      taken : TakesNext place at.rest next
      taken = let read = rw at.left at told in inl (below, inr (Some content.items, read.0, read.2, read.1))

      -- its batches are run so
      module _ (runs : Runs) (same : judging.ways (length at.frames) ≡ runs) where
        abbrev by_runs : Rules
        by_runs = rules_with first_half judging.accepts runs

        here : by_runs ≡ rules_at judging (length at.frames)
        here = ap (λ (runs : Runs). rules_with first_half judging.accepts runs) (sym same)

        -- it found no room
        full_here : (after_it : Ledger) → IsFull by_runs ledger content.items → Ends next after_it (Err Blocks)
        full_here after_it full =
            let none = no_room judging (length at.frames) seen.accepted content.items ledger at.stands
            (subst (λ (rules : Rules). IsFull rules ledger content.items) here full) others.frames in
            let text : report_in judging lines bytes ≡ reported =
            report_at (before content.items others) goes_on ∙ ap (λ (h : History). reported ++ report lines (length at.frames) h.said) none
            ∙ append-nil reported in
            ends_here next after_it (Err Blocks) (omega arith) taken
            (fault_at (before content.items others) goes_on ∙ ap (λ (h : History). fault_in h others.fault) none, subst (Appends old mid) (sym text) at.written)

        pub no_room_said : IsFull by_runs ledger content.items → (run_of judging bytes).said ≡ seen.said
        no_room_said full =
            let none = no_room judging (length at.frames) seen.accepted content.items ledger at.stands
            (subst (λ (rules : Rules). IsFull rules ledger content.items) here full) others.frames in
            ap (λ (h : History). h.said) (run_at (before content.items others) goes_on) ∙ ap (λ (h : History). seen.said ++ h.said) none
            ∙ append-nil seen.said

        -- two different nodes of one hash were met
        clash_here : (kept given : Node) → AreAlike kept given → Clashes by_runs ledger.states ledger.blocks content.items kept given
            → StopsAtClash judging lines bytes next old mid kept given
        clash_here kept given alike met =
            let read = rw at.left at told in
            record {
              frames = at.frames;
              content = content.items;
              rest = read.0;
              reads = Reads-push at.frames bytes at.rest read.0 content.items at.reads read.2;
              left_is = read.1;
              m = met.left;
              would = would_be met.left met.left_is;
              written = subst (Appends old mid) (report_there (omega arith)) at.written;
              clash = subst (λ (frames : List (List ℕ)). ClashIn first_half met.left (maps_of (so_far frames).accepted) kept given)
                  (sym (front_is (omega arith)))
                  (clash_in first_half seen.accepted ledger at.stands met.left kept given met.clash alike);
            }
          where
            would_be : (m : StateMap) → would_leave by_runs (map_under ledger.states) ledger.blocks content.items ≡ Some m
                → slice_get (tried judging 0 (stream_of bytes).frames []) (length at.frames) ≡ Some (Some m)
            would_be m is =
                ap (λ (s : Stream). slice_get (tried judging 0 s.frames []) (length at.frames)) goes_on
                ∙ tried_first judging at.frames content.items others.frames at.room
                ∙ ap Some (sym (left_same (rules_at judging (length at.frames)) seen.accepted ledger at.stands content.items)
                ∙ subst (λ (rules : Rules). would_leave rules (map_under ledger.states) ledger.blocks content.items ≡ Some m) here is)

        -- it was judged
        module _ (verdict : Verdict) (after_it : Ledger) (says : Says by_runs ledger content.items verdict after_it)
            (stays : Stays ledger.states after_it.states) where
          abbrev said : Said
          said = said_of verdict after_it.blocks

          step : Steps judging (length at.frames) seen.accepted content.items said after_it
          step = steps judging (length at.frames) seen.accepted content.items ledger at.stands after_it stays verdict
              (subst (λ (rules : Rules). Says rules ledger content.items verdict after_it) here says)

          abbrev line : List ℕ
          line = line_of lines (length at.frames) said

          abbrev others_lines : List ℕ
          others_lines = report lines (length at.frames + 1) (history judging (length at.frames + 1) others.frames step.next).said

          whole : report_in judging lines bytes ≡ reported ++ (line ++ others_lines)
          whole = report_at (before content.items others) goes_on
              ∙ ap (λ (h : History). reported ++ report lines (length at.frames) h.said) (step.goes others.frames)

          pub line_cut : (new : Option (List ℕ)) (e : RunFault) (n : ℕ) → (e ≡ Write) ⊎ (e ≡ Memory) → Appends mid new (take n (line_of lines place said))
              → Judges judging lines bytes next old new after_it (Err e)
          line_cut new e n which cut =
              let part : Appends mid new (take n line) = subst (λ (p : ℕ). Appends mid new (take n (line_of lines p said))) (sym at.count) cut in
              let front = front_cut (report_in judging lines bytes) old mid new reported line others_lines n whole at.written part in
              let prompt = prompt_here next new (take n line) (omega arith) taken (Appends-trans old mid new reported (take n line) at.written part) in
              elim which [
                | inl h ↦ rw h (record { front = front; prompt = prompt; ends = tt })
                | inr h ↦ rw h
                    (record { front = front; prompt = prompt; ends = tt })
              ]

          -- and so the whole stream goes on
          pub judged_said : (more : List Said) × ((run_of judging bytes).said ≡ seen.said ++ said ∷ more)
          judged_said = (
            (history judging (length at.frames + 1) others.frames step.next).said,
            ap (λ (h : History). h.said) (run_at (before content.items others) goes_on)
                ∙ ap (λ (h : History). seen.said ++ h.said) (step.goes others.frames),
          )

          -- its line was written
          behind_it : so_far (at.frames ++ content.items ∷ []) ≡ after seen (histories.before said (ended step.next false))
          unfolding history
          behind_it = behind_first judging at.frames (content.items ∷ []) at.room ∙ ap (after seen) (step.goes [])

          report_is : report_on (at.frames ++ content.items ∷ []) ≡ reported ++ line
          unfolding history
          report_is =
              report-behind lines judging at.frames (content.items ∷ []) at.room
              ∙ ap (λ (h : History). reported ++ report lines (length at.frames) h.said) (step.goes [])
              ∙ ap (λ (l : List ℕ). reported ++ l) (append-nil line)

          some_is : some_refused (so_far (at.frames ++ content.items ∷ [])).said ≡ (some_refused seen.said || is_refused said)
          some_is =
              ap (λ (h : History). some_refused h.said) behind_it ∙ list_any-append is_refused seen.said (said ∷ [])
              ∙ or_false (some_refused seen.said) (is_refused said)

          pub line_written : {Hears : List Said → Type 0} → (new : Option (List ℕ)) (more : Bool) → Appends mid new (line_of lines place said)
              → more ≡ (refused || is_refused said) → (Heard seen.said → Hears (seen.said ++ said ∷ []))
              → IsAt Hears (place + 1) bytes next old new more after_it
          line_written {Hears} new more wrote is hears =
              let read = rw at.left at told in
              let shown : Appends mid new line = subst (λ (p : ℕ). Appends mid new (line_of lines p said)) (sym at.count) wrote in
              record {
                frames = at.frames ++ content.items ∷ [];
                rest = read.0;
                left = read.1;
                count = omega (arith, at.count, length-push at.frames content.items);
                reads = Reads-push at.frames bytes at.rest read.0 content.items at.reads read.2;
                room = ap (λ (h : History). h.is_full) behind_it;
                written = subst (Appends old new) (sym report_is) (Appends-trans old mid new reported line at.written shown);
                some = is ∙ ap (λ (b : Bool). b || is_refused said) at.some ∙ sym some_is;
                stands = subst (λ (h : History). IsAfter h.accepted after_it) (sym behind_it) step.stands;
                heard = subst (λ (h : History). Hears h.said) (sym behind_it) (hears at.heard);
              }

-- ---- by some way to run the batches of each block

-- what comes of it, where the input tells its bytes
pub so_by : (first : Option (List ℕ)) (P Q : List ℕ → Type 0) → ((bytes : List ℕ) → P bytes → Q bytes) → IfSome first P → IfSome first Q
so_by None P Q goes so = tt
so_by (Some bytes) P Q goes so = goes bytes so

-- where the batches of the next block are run so, the judging stands as before
module _ (accepts : Accepts) (lines : Lines) (ways : ℕ → Runs) (runs : Runs) {Heard : List Said → Type 0} {place : ℕ} {bytes : List ℕ}
    {now old new : Option (List ℕ)} {refused : Bool} {ledger : Ledger} (at : IsAt (by_ways accepts ways) lines Heard place bytes now old new refused ledger) where
  same_so_far : history (by_ways accepts ways) 0 at.frames [] ≡ history (by_ways accepts (put ways place runs)) 0 at.frames []
  same_so_far = before_put accepts ways place runs at.frames (omega (arith, at.count))

  pub at_put : IsAt (by_ways accepts (put ways place runs)) lines Heard place bytes now old new refused ledger
  at_put = record {
    frames = at.frames;
    rest = at.rest;
    left = at.left;
    count = at.count;
    reads = at.reads;
    room = ap (λ (h : History). h.is_full) (sym same_so_far) ∙ at.room;
    written = subst (λ (h : History). Appends old new (report lines 0 h.said)) same_so_far at.written;
    some = at.some ∙ ap (λ (h : History). some_refused h.said) same_so_far;
    stands = subst (λ (h : History). IsAfter h.accepted ledger) same_so_far at.stands;
    heard = subst (λ (h : History). Heard h.said) same_so_far at.heard;
  }

module _ (processors : Processors) (accepts : Accepts) (lines : Lines) where
  -- where it stands, of an input that may not tell its bytes
  pub record SoFar (Heard : List Said → Type 0) (place : ℕ) (first now old new : Option (List ℕ)) (refused : Bool) (ledger : Ledger) : Type 0 where
    pub ways : ℕ → Runs
    pub may : (place : ℕ) → RunsBy processors (ways place)
    pub so : IfSome first (λ bytes. IsAt (by_ways accepts ways) lines Heard place bytes now old new refused ledger)

  pub start : {Heard : List Said → Type 0} → (ways : ℕ → Runs) → ((place : ℕ) → RunsBy processors (ways place)) → (first old : Option (List ℕ)) (ledger : Ledger)
      → IsAfter [] ledger → Heard [] → SoFar Heard 0 first first old old false ledger
  unfolding history
  start {Heard} ways may first old ledger stands nothing = record { ways = ways; may = may; so = begin first }
    where
      begin : (first : Option (List ℕ)) → IfSome first (λ bytes. IsAt (by_ways accepts ways) lines Heard 0 bytes first old old false ledger)
      begin None = tt
      begin (Some bytes) = record {
        frames = [];
        rest = bytes;
        left = refl;
        count = refl;
        reads = refl;
        room = refl;
        written = Appends-nil old;
        some = refl;
        stands = stands;
        heard = nothing;
      }

  module _ {Heard : List Said → Type 0} {place : ℕ} {first now old mid : Option (List ℕ)} {refused : Bool} {ledger : Ledger}
      (at : SoFar Heard place first now old mid refused ledger) (next new : Option (List ℕ)) where
    abbrev Was : (ℕ → Runs) → List ℕ → Type 0
    Was ways bytes = IsAt (by_ways accepts ways) lines Heard place bytes now old mid refused ledger

    -- the judging ended
    pub so_ends : (after_it : Ledger) (result : Result Bool RunFault)
        → ((ways : ℕ → Runs) (bytes : List ℕ) → Was ways bytes → Judges (by_ways accepts ways) lines bytes next old new after_it result)
        → JudgesSomehow processors accepts lines first next old new after_it result
    so_ends after_it result step = record {
      ways = at.ways;
      may = at.may;
      so = so_by first (Was at.ways) (λ bytes. Judges (by_ways accepts at.ways) lines bytes next old new after_it result) (step at.ways) at.so;
    }

    -- the batches of a block were run so
    module _ (runs : Runs) (by : RunsBy processors runs) where
      abbrev ways_on : ℕ → Runs
      ways_on = put at.ways place runs

      may_on : (n : ℕ) → RunsBy processors (put at.ways place runs n)
      may_on = put_may processors at.ways place runs at.may by

      pub there : {bytes : List ℕ} → (is : Was ways_on bytes) → ways_on (length is.frames) ≡ runs
      there is = ap ways_on is.count ∙ put_there at.ways place runs

      -- and the judging ended
      pub so_ends_by : (after_it : Ledger) (result : Result Bool RunFault)
          → ((ways : ℕ → Runs) (bytes : List ℕ) (is : Was ways bytes) → ways (length is.frames) ≡ runs
          → Judges (by_ways accepts ways) lines bytes next old new after_it result)
          → JudgesSomehow processors accepts lines first next old new after_it result
      so_ends_by after_it result step = record {
        ways = ways_on;
        may = may_on;
        so = so_by first (Was at.ways) (λ bytes. Judges (by_ways accepts ways_on) lines bytes next old new after_it result)
            (λ bytes was. let is = at_put accepts lines at.ways runs was in step ways_on bytes is (there is)) at.so;
      }

      -- or it goes on
      pub so_more : {Hears : List Said → Type 0} → (more : Bool) (after_it : Ledger)
          → ((ways : ℕ → Runs) (bytes : List ℕ) (is : Was ways bytes) → ways (length is.frames) ≡ runs
          → IsAt (by_ways accepts ways) lines Hears (place + 1) bytes next old new more after_it)
          → SoFar Hears (place + 1) first next old new more after_it
      so_more {Hears} more after_it step = record {
        ways = ways_on;
        may = may_on;
        so = so_by first (Was at.ways) (λ bytes. IsAt (by_ways accepts ways_on) lines Hears (place + 1) bytes next old new more after_it)
            (λ bytes was. let is = at_put accepts lines at.ways runs was in step ways_on bytes is (there is)) at.so;
      }

  -- a frame was read whose block has no verdict, since it found no room, two nodes clashed, a processor failed or
  -- memory was refused
  module _ {Heard : List Said → Type 0} {place : ℕ} {first now old mid : Option (List ℕ)} {refused : Bool} {ledger : Ledger}
      (at : SoFar Heard place first now old mid refused ledger) (next : Option (List ℕ)) (content : Vec ℕ) (below : place < max_frames)
      (told : FrameGives max_length now next (Ok (Some content))) (after_it : Ledger) where
    ends_unsaid : (e : RunFault) → ((ways : ℕ → Runs) (bytes : List ℕ) (is : IsAt (by_ways accepts ways) lines Heard place bytes now old mid refused ledger)
        → JudgesBy (by_ways accepts ways) lines bytes next old mid after_it (Err e))
        → JudgesSomehow processors accepts lines first next old mid after_it (Err e)
    ends_unsaid e ends = so_ends at next mid after_it (Err e) (λ ways bytes is.
        ends_here (by_ways accepts ways) lines is next after_it (Err e) (omega (arith, below))
        (taken (by_ways accepts ways) lines is next content below told) (ends ways bytes is))

    pub not_judged : (e : RunFault) → LeavesUnjudged e
        → (e ≡ Blocks → (runs : Runs) × RunsBy processors runs × IsFull (rules_with first_half accepts runs) ledger content.items)
        → ClashesBy processors accepts ledger content.items e
        → JudgesSomehow processors accepts lines first next old mid after_it (Err e)
    not_judged Blocks why full clash =
        let by = full refl in
        so_ends_by at next mid by.0 by.1 after_it (Err Blocks) (λ ways bytes is same.
        full_here (by_ways accepts ways) lines is next content below told by.0 same after_it by.2)
    not_judged (Collision kept given) why full clash =
        so_ends_by at next mid clash.0 clash.1 after_it (Err (Collision kept given)) (λ ways bytes is same.
        ends_here (by_ways accepts ways) lines is next after_it (Err (Collision kept given)) (omega (arith, below))
        (taken (by_ways accepts ways) lines is next content below told)
        (clash_here (by_ways accepts ways) lines is next content below told clash.0 same kept given why clash.2))
    not_judged Peer why full clash = ends_unsaid Peer (λ ways bytes is. tt)
    not_judged Memory why full clash = ends_unsaid Memory (λ ways bytes is. tt)
    not_judged e why full clash = absurd why

  -- nothing was taken or written
  pub nothing_judged : (ways : ℕ → Runs) → ((place : ℕ) → RunsBy processors (ways place)) → (first old : Option (List ℕ)) (ledger : Ledger)
      → JudgesSomehow processors accepts lines first first old old ledger (Err Memory)
  unfolding history
  nothing_judged ways may first old ledger = record { ways = ways; may = may; so = begin first }
    where
      begin : (first : Option (List ℕ)) → IfSome first (λ bytes. Judges (by_ways accepts ways) lines bytes first old old ledger (Err Memory))
      begin None = tt
      begin (Some bytes) = record {
        front = ([], report_in (by_ways accepts ways) lines bytes, refl, Appends-nil old);
        prompt = record {
          frames = [];
          rest = bytes;
          reads = refl;
          told = omega arith;
          next =
              inl (omega arith, inl ([], Consumes-nil (Some bytes), inl (omega arith)));
          part = [];
          written = Appends-nil old;
        };
        ends = tt;
      }
