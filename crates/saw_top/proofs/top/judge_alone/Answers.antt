use Rattle.std.proofs.Common.{List, [], inr, map, true, refl, ap, subst}
use Rattle.std.proofs.lemmas.Result.{err_from_is_err_and}
use Rattle.std.specs.Prelude.{Some}
use Rattle.saw_context.specs.Outcome.{Processors}
use Rattle.saw_identity.specs.Stations.{identity_offers, with_identity}
use Rattle.saw_messages.specs.declared.outcome.Reason.TheVariants.{Remote}
use Rattle.saw_messages.specs.declared.talk.Action.TheVariants as actions
use Rattle.saw_report.specs.declared.run_fault.RunFault.TheVariants as runs
use Rattle.saw_station.specs.Serving.{processors_at}
use Rattle.saw_station.specs.declared.offer.Offer.{Offer}
use Rattle.saw_top.specs.Following.{Follows, HearsJob}
use Rattle.saw_top.specs.Headline.{DoesJob}
use Rattle.saw_top.specs.Outside.{outside_with, shelf_end}
use Rattle.saw_top.specs.Wishes.{wish_in}
use Rattle.saw_top.specs.World.{processors_alone, world_with}
use Rattle.saw_top.proofs.Carrying.{job_so, signs, unbegun}
use Rattle.saw_top.proofs.HearingJobs.{cut_job}
use Rattle.saw_top.proofs.Counting.{never_rose}
use Rattle.saw_top.proofs.Served.{nothing_common, own_alone}
use Rattle.saw_top.proofs.top.judge_alone.Goals as goal

pub returns-in_err-stations : goal.returns-in_err-stations
returns-in_err-stations g c =
    let signing = signs (g.G.Signer.key_text c.args.signer.now) (g.G.Signer.signature c.args.signer.now) in
    let p = err_from_is_err_and c.from_residual.result c.from_residual.ensures.1 in
    record {
      carries = rw (p.1, p.2)
          (unbegun (world_with (g.V.Verifier.accepts c.args.verifier.now) signing processors_alone) (wish_in c.args.job.now)
          (outside_with g.S.Source g.O.Sink g.N.Sink c.args.input.now c.args.output.now c.args.notes.now (shelf_end g.F.Shelf c.args.shelf.now) []) [] tt
          (λ files. own_alone) runs.Memory (inr refl) (λ is. absurd cc));
      heard = rw (p.1, p.2)
          (cut_job (world_with (g.V.Verifier.accepts c.args.verifier.now) signing processors_alone) (Some (wish_in c.args.job.now))
          (g.F.Shelf.files c.args.shelf.now) (g.S.Source.unread c.args.input.now) g.W.Follower.follows (g.W.Follower.heads c.args.follower.now)
          (λ files. own_alone) runs.Memory refl);
      belongs = c.requires.belongs;
    }

pub returns : goal.returns
returns g c =
    let accepts = g.V.Verifier.accepts c.args.verifier.now in
    let signing = signs (g.G.Signer.key_text c.args.signer.now) (g.G.Signer.signature c.args.signer.now) in
    let wish = wish_in c.args.job.now in
    let olds = c.in_ok-stations.stations.items in
    let news = c.judge_beside.new.stations.items in
    let none = λ (l : List _). map (λ one. 0) l in
    let before = outside_with g.S.Source g.O.Sink g.N.Sink c.args.input.now c.args.output.now c.args.notes.now (shelf_end g.F.Shelf c.args.shelf.now) in
    let after = outside_with g.S.Source g.O.Sink g.N.Sink c.judge_beside.new.input c.judge_beside.new.output c.judge_beside.new.notes
    (shelf_end g.F.Shelf c.judge_beside.new.shelf) in
    record {
      carries = job_so (world_with accepts signing processors_alone) wish (before []) (after []) (none olds) (none news) [] [] (λ rose. absurd (never_rose olds news rose)) tt
          c.judge_beside.result
          (subst (λ (p : Processors). DoesJob (world_with accepts signing p) (Some wish) (before (none olds)) (after (none news)) c.judge_beside.result)
          (ap (λ (l : List Offer). processors_at (with_identity (λ tx turns. actions.Invalid Remote)) true (identity_offers l)) (nothing_common news))
          c.judge_beside.ensures.carries);
      heard = subst (λ (p : Processors). HearsJob (world_with accepts signing p) (Some wish) (g.F.Shelf.files c.args.shelf.now)
          (Follows g.W.Follower.follows (g.W.Follower.heads c.args.follower.now) (g.W.Follower.heads c.judge_beside.new.follower))
          (g.S.Source.unread c.args.input.now) c.judge_beside.result)
          (ap (λ (l : List Offer). processors_at (with_identity (λ tx turns. actions.Invalid Remote)) true (identity_offers l)) (nothing_common news))
          c.judge_beside.ensures.heard;
      belongs = c.judge_beside.ensures.belongs;
    }
