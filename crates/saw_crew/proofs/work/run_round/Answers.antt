use Rattle.std.proofs.Common.{List, ap, subst}
use Rattle.saw_context.specs.Outcome.{Processors}
use Rattle.saw_station.specs.Serving.{processors_at}
use Rattle.saw_station.specs.declared.offer.Offer.{Offer}
use Rattle.saw_crew.specs.Rounds.{AddsResult}
use Rattle.saw_crew.proofs.InHand.{round-goes-on}
use Rattle.saw_crew.proofs.Leaving.{keeps_trans}
use Rattle.saw_crew.proofs.work.run_round.Goals as goal

pub loop-preserved : goal.loop-preserved
loop-preserved g c =
    let so_far = c.loop.invariant in
    let at : List Offer → Processors = processors_at g.R.Station.next g.R.Station.tells in
    let before = c.has_next.new.self in
    let after = c.run_next.new.self in
    let adds : AddsResult (at c.args.desk.now.offers) before.jobs.items before.done.items after.done.items =
    subst (λ (offers : List Offer). AddsResult (at offers) before.jobs.items before.done.items after.done.items) so_far.desk.offers (c.run_next.ensures.yes c.if-not-run_next.false) in
    let both =
    round-goes-on (at c.args.desk.now.offers) c.loop.hand.jobs.items before.jobs.items after.jobs.items c.loop.hand.done.items before.done.items after.done.items so_far.sound so_far.first
    (ap (λ v. v.items) c.in-Ok-true.ensures.done) c.in-Ok-true.ensures.jobs adds (ap (λ v. v.items) c.run_next.ensures.jobs) in record {
      sound = both.0;
      first = both.1;
      desk = keeps_trans g.R.Station.faults g.R.Station.offered c.args.desk.now c.loop.desk c.run_next.new.desk so_far.desk c.run_next.ensures.desk;
    }
