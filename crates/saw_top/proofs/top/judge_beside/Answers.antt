use Rattle.std.proofs.Common.{◌<◌, List, Some, inr, length, map, refl, sym, ap, subst, ◌∙◌, arith}
use Rattle.std.proofs.lemmas.Result.{err_from_is_err_and}
use Rattle.saw_identity.specs.Stations.{identity_offers, with_identity}
use Rattle.saw_report.specs.declared.run_fault.RunFault.TheVariants as runs
use Rattle.saw_station.specs.CommonOffers.{common}
use Rattle.saw_station.specs.Serving.{processors_at}
use Rattle.saw_context.specs.Outcome.{Processors}
use Rattle.saw_top.specs.Following.{Follows, HearsJob}
use Rattle.saw_top.specs.Outside.{outside}
use Rattle.saw_top.specs.Wishes.{wish_in}
use Rattle.saw_top.specs.World.{processors_beside, world_with}
use Rattle.saw_top.proofs.Carrying.{same_job, signs, unbegun}
use Rattle.saw_top.proofs.HearingJobs.{cut_job}
use Rattle.saw_top.proofs.Counting.{later_same}
use Rattle.saw_top.proofs.Served.{own_beside}
use Rattle.saw_top.proofs.Wrapped.{as_many_inner, as_many_offered, as_many_wrapped, common_inner, counts_inner}
use Rattle.saw_top.proofs.top.judge_beside.Goals as goal

pub returns-in_err-wrapped : goal.returns-in_err-wrapped
returns-in_err-wrapped g c =
    let laws = g.met.R.Station g.world.𝓛 g.world.𝓜 g.world.𝓡 ((λ s x. x), (λ x. x), (λ x. x), λ x. x) in
    let faults = g.R.Station.faults in
    let offered = g.R.Station.offered in
    let signing = signs (g.G.Signer.key_text c.args.signer.now) (g.G.Signer.signature c.args.signer.now) in
    let stations = c.args.stations.now.items in
    let p = err_from_is_err_and c.from_residual.result c.from_residual.ensures.1 in
    let same = c.in_err-wrapped.ensures.err in
    record {
      carries = rw (p.1, p.2, same)
          (unbegun (world_with (g.V.Verifier.accepts c.args.verifier.now) signing (processors_beside g.R.Station.next g.R.Station.tells (map offered stations)))
          (wish_in c.args.job.now)
          (outside g.S.Source g.O.Sink g.N.Sink g.F.Shelf faults c.args.input.now c.args.output.now c.args.notes.now c.args.shelf.now stations)
          (map faults stations) (later_same (map faults stations))
          (λ files. own_beside g.R.Station.next laws.own_reasons g.R.Station.tells (map offered stations)) runs.Memory (inr refl) (λ is. absurd cc));
      heard = rw (p.1, p.2, same)
          (cut_job (world_with (g.V.Verifier.accepts c.args.verifier.now) signing (processors_beside g.R.Station.next g.R.Station.tells (map offered stations)))
          (Some (wish_in c.args.job.now)) (g.F.Shelf.files c.args.shelf.now) (g.S.Source.unread c.args.input.now) g.W.Follower.follows
          (g.W.Follower.heads c.args.follower.now) (λ files. own_beside g.R.Station.next laws.own_reasons g.R.Station.tells (map offered stations))
          runs.Memory refl);
      belongs = c.requires.belongs;
      count = ap length same;
      begun = c.in_err-wrapped.ensures.begun;
    }

pub returns : goal.returns
returns g c =
    let faults = g.R.Station.faults in
    let offered = g.R.Station.offered in
    let signing = signs (g.G.Signer.key_text c.args.signer.now) (g.G.Signer.signature c.args.signer.now) in
    let olds = c.in_ok-wrapped.wrapped.items in
    let news = c.judge_begun-came.new.remotes.items in
    let first = c.args.stations.now.items in
    let last = c.unwrap.new.stations.items in
    let done = c.judge_begun-came.ensures.carries in
    let wrapped = c.in_ok-wrapped.ensures.all in
    let back = c.unwrap.ensures.all in
    let many = as_many_inner faults olds news done.later in
    let count = ap length back ∙ many ∙ ap length wrapped in
    let some = subst (λ (l : List _). 0 < length (map offered l)) back (as_many_offered offered last first count c.requires.some) in
    let offers = common_inner offered news c.unwrap.ensures.serve some ∙ ap (λ (l : List _). identity_offers (common (map offered l))) (sym back) in
    record {
      carries = same_job (g.V.Verifier.accepts c.args.verifier.now) signing (wish_in c.args.job.now)
          (outside g.S.Source g.O.Sink g.N.Sink g.F.Shelf faults c.args.input.now c.args.output.now c.args.notes.now c.args.shelf.now first)
          (outside g.S.Source g.O.Sink g.N.Sink g.F.Shelf faults c.judge_begun-came.new.input c.judge_begun-came.new.output c.judge_begun-came.new.notes
          c.judge_begun-came.new.shelf last) _ _ _ _ _ _ _
          (ap (processors_at (with_identity g.R.Station.next) g.R.Station.tells) offers)
          (counts_inner faults olds ∙ ap (map faults) wrapped) (counts_inner faults news ∙ ap (map faults) (sym back)) done;
      heard = subst (λ (p : Processors). HearsJob (world_with (g.V.Verifier.accepts c.args.verifier.now) signing p) (Some (wish_in c.args.job.now))
          (g.F.Shelf.files c.args.shelf.now)
          (Follows g.W.Follower.follows (g.W.Follower.heads c.args.follower.now) (g.W.Follower.heads c.judge_begun-came.new.follower))
          (g.S.Source.unread c.args.input.now) c.judge_begun-came.result)
          (ap (processors_at (with_identity g.R.Station.next) g.R.Station.tells) offers) c.judge_begun-came.ensures.heard;
      belongs = c.judge_begun-came.ensures.belongs;
      count = count;
      begun = c.unwrap.ensures.begun;
    }

pub unwrap-requires-clause-room : goal.unwrap-requires-clause-room
unwrap-requires-clause-room g c κs within =
    let many = as_many_wrapped g.R.Station.faults c.in_ok-wrapped.wrapped.items c.judge_begun-came.new.remotes.items c.judge_begun-came.ensures.carries.later in
    omega (arith, many, c.in_ok-wrapped.ensures.room)
