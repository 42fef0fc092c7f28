use Rattle.std.proofs.Common.{◌≡◌, inl, [], ◌++◌, Err, refl, ap, arith}
use Rattle.std.proofs.KnownBytes.{Appends-nil, Appends-trans}
use Rattle.std.specs.Prelude.{◌||◌, not}
use Rattle.std.proofs.lemmas.Result.{err_from_is_err_and}
use Rattle.saw_crew.proofs.Leaving.{failed_since, keep_all, keeps_all_trans, kept_alike, kept_offers, kept_some}
use Rattle.saw_crew.specs.Desks.{offers_at}
use Rattle.saw_io.specs.declared.fault.FrameFault.{FrameFault}
use Rattle.saw_io.specs.declared.fault.FrameFault.TheVariants as frames
use Rattle.saw_node.specs.Hashes.{first_half}
use Rattle.saw_report.specs.RunFaults.{fault_of_frame}
use Rattle.saw_report.specs.declared.run_fault.RunFault.{RunFault}
use Rattle.saw_report.specs.declared.run_fault.RunFault.TheVariants.{Blocks, Collision, Frames, Memory, Peer, Read}
use Rattle.saw_receipts.proofs.Ways.{is_by_serial}
use Rattle.saw_station.proofs.Finished.{processors_own}
use Rattle.saw_station.specs.Serving.{processors_at}
use Rattle.saw_top.specs.Clashing.{LeavesUnjudged, TellsAlike}
use Rattle.saw_top.specs.EndingFaults.{IsOfStream}
use Rattle.saw_top.specs.Reports.{said_of}
use Rattle.saw_top.specs.World.{serially}
use Rattle.saw_top.proofs.Branching.{known_first}
use Rattle.saw_top.proofs.Desks.{failed_rose}
use Rattle.saw_top.proofs.Hearing.{cut_line, few_more, hears, hears_by, nothing_heard, one_heard, part_heard, same_heard, unjudged_heard, whole_heard}
use Rattle.saw_top.proofs.Standings.{all_there, end_said, fault_said, full_said, judged_said, line_cut, line_written, no_more, not_judged, over_said, probe_fault, read_fault, said_first, so_ends, so_ends_by, so_more, start, too_many}
use Rattle.saw_top.proofs.stream.judge_stream.Goals as goal

pub loop-place-init : goal.loop-place-init
loop-place-init g c =
    let laws = g.met.R.Station g.world.𝓛 g.world.𝓜 g.world.𝓡 ((λ s x. x), (λ x. x), (λ x. x), λ x. x) in
    let processors = processors_at g.R.Station.next g.R.Station.tells (offers_at c.args.desks.now) in
    record {
      so_far = start processors (g.V.Verifier.accepts c.args.verifier.now) c.args.lines (serially processors).blocks
          (λ place. is_by_serial processors (processors_own g.R.Station.next laws.own_reasons g.R.Station.tells (offers_at c.args.desks.now)))
          (g.S.Source.unread c.args.input.now)
          (g.O.Sink.written c.args.output.now) c.args.journal.now
          (record {
            blocks = c.requires.fresh;
            limit = c.requires.limit;
            kept = tt;
            known = λ root m is. inl (known_first first_half c.args.journal.now.states c.requires.states root m is);
          })
          (nothing_heard g.W.Follower.follows (g.W.Follower.heads c.args.follower.now));
      wrote = ([], Appends-nil (g.O.Sink.written c.args.output.now));
      desks = keep_all g.R.Station.faults g.R.Station.offered c.args.desks.now;
      input_later = omega arith;
      output_later = omega arith;
      belongs = c.requires.belongs;
      knows = c.requires.knows;
      few = λ yes. omega arith;
    }

pub returns-in_err-read_frame-clause-judges : goal.returns-in_err-read_frame-clause-judges
returns-in_err-read_frame-clause-judges g c =
    let failed = c.from_residual in
    let p = err_from_is_err_and failed.result failed.ensures.1 in
    let e = c.in_err-read_frame.ensures in
    rw (p.1, p.2) (so_ends _ _ c.args.lines c.loop-place.invariant.so_far _ _ _ _
    (λ ways bytes at. read_fault _ c.args.lines at _ _ c.loop-place-test.true e.told e.err.0 e.err.1 e.err.2))

pub returns-in-None-clause-judges : goal.returns-in-None-clause-judges
returns-in-None-clause-judges g c =
    let none = rw c.in-None.is at c.in_ok-read_frame.ensures.told in
    so_ends _ _ c.args.lines c.loop-place.invariant.so_far _ _ _ _ (λ ways bytes at. no_more _ c.args.lines at _ c.loop-place-test.true none)

pub returns-in_err-verdict-in-Some-clause-judges : goal.returns-in_err-verdict-in-Some-clause-judges
returns-in_err-verdict-in-Some-clause-judges g c =
    let some = rw c.in-Some.is at c.in_ok-read_frame.ensures.told in
    let failed = c.from_residual-in_err-verdict-in-Some in
    let p = err_from_is_err_and failed.result failed.ensures.1 in
    let e = c.in_err-verdict-in-Some.ensures in
    let same = kept_offers _ _ c.args.desks.now c.loop-place.desks c.loop-place.invariant.desks in
    let full = rw (same, c.deref.ensures.value) at e.full in
    let clash = rw (same, c.deref.ensures.value) at e.clash in
    rw (p.1, p.2) (not_judged _ _ c.args.lines c.loop-place.invariant.so_far _ c.in-Some.content c.loop-place-test.true some c.judge_frame.new.journal _
    e.fault (λ is. full (ap Err is)) clash)

pub returns-in_err-tell_block-in-Some-clause-judges : goal.returns-in_err-tell_block-in-Some-clause-judges
returns-in_err-tell_block-in-Some-clause-judges g c =
    let some = rw c.in-Some.is at c.in_ok-read_frame.ensures.told in
    let failed = c.from_residual-in_err-tell_block-in-Some in
    let p = err_from_is_err_and failed.result failed.ensures.1 in
    let same = kept_offers _ _ c.args.desks.now c.loop-place.desks c.loop-place.invariant.desks in
    let says = rw (same, c.deref.ensures.value) at c.in_ok-verdict-in-Some.ensures.says in
    let e = c.in_err-tell_block-in-Some.ensures in
    rw (p.1, p.2) (so_ends_by _ _ c.args.lines c.loop-place.invariant.so_far _ _ says.0 says.1 _ _ (λ ways bytes at run_so.
    line_cut _ c.args.lines at _ c.in-Some.content c.loop-place-test.true some says.0 run_so c.in_ok-verdict-in-Some.verdict
    c.judge_frame.new.journal says.2 c.in_ok-verdict-in-Some.ensures.stays _ _ e.err.0 e.fault e.err.1))

pub loop-place-preserved : goal.loop-place-preserved
loop-place-preserved g c =
    let some = rw c.in-Some.is at c.in_ok-read_frame.ensures.told in
    let same = kept_offers _ _ c.args.desks.now c.loop-place.desks c.loop-place.invariant.desks in
    let says = rw (same, c.deref.ensures.value) at c.in_ok-verdict-in-Some.ensures.says in
    record {
      so_far = so_more _ _ c.args.lines c.loop-place.invariant.so_far _ _ says.0 says.1 _ _ (λ ways bytes at run_so.
          line_written _ c.args.lines at _ c.in-Some.content c.loop-place-test.true some says.0 run_so c.in_ok-verdict-in-Some.verdict
          c.judge_frame.new.journal says.2 c.in_ok-verdict-in-Some.ensures.stays _ _
          c.in_ok-tell_block-in-Some.ensures.ok (ap (λ b. c.loop-place.refused || not b) c.is_accepted.ensures)
          (one_heard (said_of c.in_ok-verdict-in-Some.verdict c.judge_frame.new.journal.blocks) c.in_ok-tell_head-in-Some.ensures.ok));
      wrote = (
        c.loop-place.invariant.wrote.0 ++ _,
        Appends-trans _ _ _ c.loop-place.invariant.wrote.0 _ c.loop-place.invariant.wrote.1
            c.in_ok-tell_block-in-Some.ensures.ok,
      );
      desks = keeps_all_trans _ _ _ _ c.judge_frame.new.desks c.loop-place.invariant.desks c.in_ok-verdict-in-Some.ensures.desks;
      input_later = omega arith;
      output_later = omega arith;
      belongs = c.in_ok-tell_head-in-Some.ensures.belongs;
      knows = c.in_ok-tell_head-in-Some.ensures.knows;
      few = few_more g.W.Follower.follows (g.W.Follower.heads c.args.follower.now) (g.W.Follower.heads c.loop-place.follower)
          (g.W.Follower.heads c.tell_head.new.follower) c.loop-place.place _ c.loop-place.invariant.few c.in_ok-tell_head-in-Some.ensures.ok;
    }

pub returns-in_err-has_ended-clause-judges : goal.returns-in_err-has_ended-clause-judges
returns-in_err-has_ended-clause-judges g c =
    let failed = c.from_residual-in_err-has_ended in
    let p = err_from_is_err_and failed.result failed.ensures.1 in
    let e = c.in_err-has_ended.ensures in
    let is : c.in_err-has_ended.field-0.0 ≡ Read = cc e.only in
    rw (p.1, p.2, is) (so_ends _ _ c.args.lines c.loop-place.invariant.so_far _ _ _ _
    (λ ways bytes at. probe_fault _ c.args.lines at _ (omega arith) (omega arith) e.err.0 e.err.1 e.err.2))

pub returns-then-branch-clause-judges : goal.returns-then-branch-clause-judges
returns-then-branch-clause-judges g c =
    let e = c.in_ok-has_ended.ensures in
    let ended = rw c.if-branch.true at e.ended in
    so_ends _ _ c.args.lines c.loop-place.invariant.so_far _ _ _ _
    (λ ways bytes at. all_there _ c.args.lines at _ (omega arith) (omega arith) ended e.taken.0 e.taken.1 e.taken.2)

pub returns-clause-judges : goal.returns-clause-judges
returns-clause-judges g c =
    let e = c.in_ok-has_ended.ensures in
    let some = rw c.if-branch.false at e.ended in
    so_ends _ _ c.args.lines c.loop-place.invariant.so_far _ _ _ _
    (λ ways bytes at. too_many _ c.args.lines at _ (omega arith) (omega arith) some e.taken.0 e.taken.1 e.taken.2)

pub returns-in_err-tell_block-in-Some-clause-wrote : goal.returns-in_err-tell_block-in-Some-clause-wrote
returns-in_err-tell_block-in-Some-clause-wrote g c =
    let cut = c.in_err-tell_block-in-Some.ensures.err in
    (c.loop-place.invariant.wrote.0 ++ _, Appends-trans _ _ _ c.loop-place.invariant.wrote.0 _ c.loop-place.invariant.wrote.1 cut.1)

frame_kind : (e : FrameFault) → IsOfStream (fault_of_frame e)
frame_kind (frames.Truncated have want) = refl
frame_kind e = refl

frame_alike : (e : FrameFault) → TellsAlike (fault_of_frame e)
frame_alike (frames.Truncated have want) = tt
frame_alike (frames.TooLong size) = tt
frame_alike frames.ReadFailed = tt
frame_alike frames.OutOfMemory = tt

pub returns-in_err-read_frame-clause-kind : goal.returns-in_err-read_frame-clause-kind
returns-in_err-read_frame-clause-kind g c =
    let failed = c.from_residual in
    let p = err_from_is_err_and failed.result failed.ensures.1 in
    rw (p.1, p.2) (frame_kind c.in_err-read_frame.field-0.0)

-- what a fault of a block without verdict says
unjudged_kind : (e : RunFault) → LeavesUnjudged e → IsOfStream e
unjudged_kind Blocks why = refl
unjudged_kind (Collision kept given) why = refl
unjudged_kind Peer why = refl
unjudged_kind Memory why = refl
unjudged_kind e why = absurd why

unjudged_alike : (e : RunFault) → LeavesUnjudged e → TellsAlike e
unjudged_alike Blocks why = tt
unjudged_alike (Collision kept given) why = why
unjudged_alike Peer why = tt
unjudged_alike Memory why = tt
unjudged_alike e why = absurd why

pub returns-in_err-verdict-in-Some-clause-kind : goal.returns-in_err-verdict-in-Some-clause-kind
returns-in_err-verdict-in-Some-clause-kind g c =
    let failed = c.from_residual-in_err-verdict-in-Some in
    let p = err_from_is_err_and failed.result failed.ensures.1 in
    rw (p.1, p.2) (unjudged_kind c.in_err-verdict-in-Some.field-0.0 c.in_err-verdict-in-Some.ensures.fault)

pub returns-in_err-verdict-in-Some-clause-nodes : goal.returns-in_err-verdict-in-Some-clause-nodes
returns-in_err-verdict-in-Some-clause-nodes g c =
    let failed = c.from_residual-in_err-verdict-in-Some in
    let p = err_from_is_err_and failed.result failed.ensures.1 in
    rw (p.1, p.2) (unjudged_alike c.in_err-verdict-in-Some.field-0.0 c.in_err-verdict-in-Some.ensures.fault)

pub returns-in_err-read_frame-clause-nodes : goal.returns-in_err-read_frame-clause-nodes
returns-in_err-read_frame-clause-nodes g c =
    let failed = c.from_residual in
    let p = err_from_is_err_and failed.result failed.ensures.1 in
    rw (p.1, p.2) (frame_alike c.in_err-read_frame.field-0.0)

pub judge_frame-requires-clause-alike : goal.judge_frame-requires-clause-alike
judge_frame-requires-clause-alike g c = λ κs alive.
    kept_alike _ _ _ _ c.loop-place.invariant.desks c.requires.alike

pub judge_frame-requires-clause-some : goal.judge_frame-requires-clause-some
judge_frame-requires-clause-some g c = λ κs alive.
    kept_some _ _ _ _ c.loop-place.invariant.desks c.requires.some

pub returns-in_err-verdict-in-Some-clause-desks : goal.returns-in_err-verdict-in-Some-clause-desks
returns-in_err-verdict-in-Some-clause-desks g c =
    keeps_all_trans _ _ _ _ c.judge_frame.new.desks c.loop-place.invariant.desks c.in_err-verdict-in-Some.ensures.desks

pub returns-in_err-tell_block-in-Some-clause-desks : goal.returns-in_err-tell_block-in-Some-clause-desks
returns-in_err-tell_block-in-Some-clause-desks g c =
    keeps_all_trans _ _ _ _ c.judge_frame.new.desks c.loop-place.invariant.desks c.in_ok-verdict-in-Some.ensures.desks

pub returns-in_err-verdict-in-Some-clause-peer : goal.returns-in_err-verdict-in-Some-clause-peer
returns-in_err-verdict-in-Some-clause-peer g c =
    let failed = c.from_residual-in_err-verdict-in-Some in
    let p = err_from_is_err_and failed.result failed.ensures.1 in
    let e = c.in_err-verdict-in-Some.ensures in
    let since = keeps_all_trans _ _ _ _ c.judge_frame.new.desks c.loop-place.invariant.desks e.desks in
    rw (p.1, p.2) (λ is.
    let peer : c.in_err-verdict-in-Some.field-0.0 ≡ Peer = cc in
    failed_rose g.R.Station.faults g.R.Station.offered c.args.desks.now c.judge_frame.new.desks since
    (failed_since g.R.Station.faults g.R.Station.offered c.args.desks.now c.loop-place.desks c.judge_frame.new.desks c.loop-place.invariant.desks
    (e.cause (ap Err peer))))

-- ---- who follows

pub tell_head-requires-clause-knows : goal.tell_head-requires-clause-knows
tell_head-requires-clause-knows g c =
    c.in_ok-verdict-in-Some.ensures.stays (g.W.Follower.root c.loop-place.follower) (g.W.Follower.map c.loop-place.follower) c.loop-place.invariant.knows

pub tell_head-requires-clause-room : goal.tell_head-requires-clause-room
tell_head-requires-clause-room g c = λ yes.
    omega (arith, c.loop-place.invariant.few yes, c.requires.few yes, c.loop-place-test.true)

pub returns-in_err-tell_head-in-Some-clause-judges : goal.returns-in_err-tell_head-in-Some-clause-judges
returns-in_err-tell_head-in-Some-clause-judges g c =
    let some = rw c.in-Some.is at c.in_ok-read_frame.ensures.told in
    let failed = c.from_residual-in_err-tell_head-in-Some in
    let p = err_from_is_err_and failed.result failed.ensures.1 in
    let is : c.in_err-tell_head-in-Some.field-0.0 ≡ Memory = c.in_err-tell_head-in-Some.ensures.fault in
    rw (p.1, p.2, is) (not_judged _ _ c.args.lines c.loop-place.invariant.so_far _ c.in-Some.content c.loop-place-test.true some c.judge_frame.new.journal
    Memory tt (λ is. absurd cc) tt)

pub returns-in_err-tell_head-in-Some-clause-kind : goal.returns-in_err-tell_head-in-Some-clause-kind
returns-in_err-tell_head-in-Some-clause-kind g c =
    let failed = c.from_residual-in_err-tell_head-in-Some in
    let p = err_from_is_err_and failed.result failed.ensures.1 in
    let is : c.in_err-tell_head-in-Some.field-0.0 ≡ Memory = c.in_err-tell_head-in-Some.ensures.fault in
    rw (p.1, p.2, is) refl

pub returns-in_err-tell_head-in-Some-clause-nodes : goal.returns-in_err-tell_head-in-Some-clause-nodes
returns-in_err-tell_head-in-Some-clause-nodes g c =
    let failed = c.from_residual-in_err-tell_head-in-Some in
    let p = err_from_is_err_and failed.result failed.ensures.1 in
    let is : c.in_err-tell_head-in-Some.field-0.0 ≡ Memory = c.in_err-tell_head-in-Some.ensures.fault in
    rw (p.1, p.2, is) tt

pub returns-in_err-tell_head-in-Some-clause-desks : goal.returns-in_err-tell_head-in-Some-clause-desks
returns-in_err-tell_head-in-Some-clause-desks g c =
    keeps_all_trans _ _ _ _ c.judge_frame.new.desks c.loop-place.invariant.desks c.in_ok-verdict-in-Some.ensures.desks

pub returns-in_err-read_frame-clause-heard : goal.returns-in_err-read_frame-clause-heard
returns-in_err-read_frame-clause-heard g c =
    let failed = c.from_residual in
    let p = err_from_is_err_and failed.result failed.ensures.1 in
    let e = c.in_err-read_frame.ensures in
    rw (p.1, p.2) (hears _ _ c.args.lines _ c.loop-place.invariant.so_far _ (λ ways bytes at.
    part_heard _ bytes at.heard _ (fault_said _ c.args.lines at _ _ e.told c.loop-place-test.true) (said_first _ c.args.lines at (omega arith))))

pub returns-in-None-clause-heard : goal.returns-in-None-clause-heard
returns-in-None-clause-heard g c =
    let none = rw c.in-None.is at c.in_ok-read_frame.ensures.told in
    hears _ _ c.args.lines _ c.loop-place.invariant.so_far _ (λ ways bytes at.
    whole_heard _ bytes at.heard (end_said _ c.args.lines at _ c.loop-place-test.true none))

pub returns-in_err-verdict-in-Some-clause-heard : goal.returns-in_err-verdict-in-Some-clause-heard
returns-in_err-verdict-in-Some-clause-heard g c =
    let some = rw c.in-Some.is at c.in_ok-read_frame.ensures.told in
    let failed = c.from_residual-in_err-verdict-in-Some in
    let p = err_from_is_err_and failed.result failed.ensures.1 in
    let e = c.in_err-verdict-in-Some.ensures in
    let same = kept_offers _ _ c.args.desks.now c.loop-place.desks c.loop-place.invariant.desks in
    let full = rw (same, c.deref.ensures.value) at e.full in
    rw (p.1, p.2) (unjudged_heard _ _ c.args.lines g.W.Follower.follows _ _ c.loop-place.invariant.so_far _ c.in-Some.content c.loop-place-test.true some
    _ e.fault (λ is. full (ap Err is)))

pub returns-in_err-tell_head-in-Some-clause-heard : goal.returns-in_err-tell_head-in-Some-clause-heard
returns-in_err-tell_head-in-Some-clause-heard g c =
    let failed = c.from_residual-in_err-tell_head-in-Some in
    let p = err_from_is_err_and failed.result failed.ensures.1 in
    let e = c.in_err-tell_head-in-Some.ensures in
    let is : c.in_err-tell_head-in-Some.field-0.0 ≡ Memory = e.fault in
    rw (p.1, p.2, is) (hears _ _ c.args.lines _ c.loop-place.invariant.so_far _ (λ ways bytes at.
    part_heard _ bytes (same_heard e.err at.heard) Memory (λ whole. absurd cc)
    (said_first _ c.args.lines at (omega arith))))

pub returns-in_err-tell_block-in-Some-clause-heard : goal.returns-in_err-tell_block-in-Some-clause-heard
returns-in_err-tell_block-in-Some-clause-heard g c =
    let some = rw c.in-Some.is at c.in_ok-read_frame.ensures.told in
    let failed = c.from_residual-in_err-tell_block-in-Some in
    let p = err_from_is_err_and failed.result failed.ensures.1 in
    let same = kept_offers _ _ c.args.desks.now c.loop-place.desks c.loop-place.invariant.desks in
    let says = rw (same, c.deref.ensures.value) at c.in_ok-verdict-in-Some.ensures.says in
    rw (p.1, p.2) (hears_by _ _ c.args.lines _ c.loop-place.invariant.so_far says.0 says.1 _ (λ ways bytes at run_so.
    cut_line _ bytes _ _
    (one_heard (said_of c.in_ok-verdict-in-Some.verdict c.judge_frame.new.journal.blocks) c.in_ok-tell_head-in-Some.ensures.ok at.heard)
    (judged_said _ c.args.lines at _ c.in-Some.content c.loop-place-test.true some says.0 run_so c.in_ok-verdict-in-Some.verdict
    c.judge_frame.new.journal says.2 c.in_ok-verdict-in-Some.ensures.stays) _ c.in_err-tell_block-in-Some.ensures.fault))

pub returns-in_err-has_ended-clause-heard : goal.returns-in_err-has_ended-clause-heard
returns-in_err-has_ended-clause-heard g c =
    let failed = c.from_residual-in_err-has_ended in
    let p = err_from_is_err_and failed.result failed.ensures.1 in
    let e = c.in_err-has_ended.ensures in
    let is : c.in_err-has_ended.field-0.0 ≡ Read = cc e.only in
    rw (p.1, p.2, is) (hears _ _ c.args.lines _ c.loop-place.invariant.so_far _ (λ ways bytes at.
    part_heard _ bytes at.heard Read (λ whole. absurd cc) (said_first _ c.args.lines at (omega arith))))

pub returns-then-branch-clause-heard : goal.returns-then-branch-clause-heard
returns-then-branch-clause-heard g c =
    let e = c.in_ok-has_ended.ensures in
    let ended = rw c.if-branch.true at e.ended in
    hears _ _ c.args.lines _ c.loop-place.invariant.so_far _ (λ ways bytes at.
    whole_heard _ bytes at.heard (full_said _ c.args.lines at (omega arith) (omega arith) ended))

pub returns-clause-heard : goal.returns-clause-heard
returns-clause-heard g c =
    let e = c.in_ok-has_ended.ensures in
    let some = rw c.if-branch.false at e.ended in
    hears _ _ c.args.lines _ c.loop-place.invariant.so_far _ (λ ways bytes at.
    part_heard _ bytes at.heard Frames (λ whole. over_said _ c.args.lines at (omega arith) (omega arith) some)
    (said_first _ c.args.lines at (omega arith)))
