use Rattle.saw_plan.specs.BatchShapes.{txs_of}
use Rattle.std.proofs.Common.{List, sym, subst}
use Rattle.saw_context.specs.Outcome.{Processors}
use Rattle.saw_context.specs.Possible.{MayComeOfAll}
use Rattle.saw_context.specs.SoundResults.{IsSoundDone}
use Rattle.saw_context.specs.declared.batch_result.BatchResult.{BatchResult}
use Rattle.saw_schedule.specs.Histories.{Takes}
use Rattle.saw_station.proofs.Finished.{processors_own}
use Rattle.saw_station.specs.Serving.{processors_at}
use Rattle.saw_station.specs.declared.offer.Offer.{Offer}
use Rattle.saw_crew.proofs.Alone.{all-settled, ended-serial, no-take, turn}
use Rattle.saw_crew.proofs.Leaving.{keeps_same, keeps_trans}
use Rattle.saw_crew.proofs.ending.run_alone.Goals as goal

pub loop-schedule-init : goal.loop-schedule-init
loop-schedule-init g c = record {
  desk = keeps_same g.R.Station.faults g.R.Station.offered c.args.desk.now;
  alone = c.requires.alone;
}

pub loop-schedule-smaller : goal.loop-schedule-smaller
loop-schedule-smaller g c =
    let l = c.loop-schedule in
    let processors : Processors = processors_at g.R.Station.next g.R.Station.tells c.args.desk.now.offers in
    let done = c.in_ok-done.done in
    let sound = subst (λ (offers : List Offer). IsSoundDone (processors_at g.R.Station.next g.R.Station.tells offers) done) l.invariant.desk.offers c.in_ok-done.ensures.sound in
    (turn processors (g.B.Base.entry c.args.base.now) (txs_of c.args.plan.now.batches) l.schedule l.invariant.alone c.take.new.self c.in-Some.job
    (subst (Takes l.schedule c.take.new.self) c.in-Some.is c.in_ok-job.ensures.ok) done c.in_ok-done.ensures.ticket c.in_ok-done.ensures.agrees sound
    c.in_ok-done.ensures.base c.finish.new.self c.finish.result c.finish.ensures).1

pub loop-schedule-preserved : goal.loop-schedule-preserved
loop-schedule-preserved g c =
    let l = c.loop-schedule in
    let processors : Processors = processors_at g.R.Station.next g.R.Station.tells c.args.desk.now.offers in
    let done = c.in_ok-done.done in
    let sound = subst (λ (offers : List Offer). IsSoundDone (processors_at g.R.Station.next g.R.Station.tells offers) done) l.invariant.desk.offers c.in_ok-done.ensures.sound in
    record {
      desk = keeps_trans g.R.Station.faults g.R.Station.offered c.args.desk.now l.desk c.run_one.new.desk l.invariant.desk
          (record {
            offers = c.run_one.ensures.offers;
            own_offers = c.run_one.ensures.own_offers;
            remote = c.run_one.ensures.remote;
            later = c.run_one.ensures.later;
          });
      alone = (turn processors (g.B.Base.entry c.args.base.now) (txs_of c.args.plan.now.batches) l.schedule l.invariant.alone c.take.new.self c.in-Some.job
          (subst (Takes l.schedule c.take.new.self) c.in-Some.is c.in_ok-job.ensures.ok) done c.in_ok-done.ensures.ticket c.in_ok-done.ensures.agrees sound
          c.in_ok-done.ensures.base c.finish.new.self c.finish.result c.finish.ensures).0;
    }

pub into_results-requires : goal.into_results-requires
into_results-requires g c =
    let l = c.loop-schedule in
    all-settled (processors_at g.R.Station.next g.R.Station.tells c.args.desk.now.offers) (g.B.Base.entry c.args.base.now) (txs_of c.args.plan.now.batches) l.schedule
    l.invariant.alone c.take.new.self (no-take l.schedule c.take.new.self c.in_ok-job.field-0 c.in_ok-job.ensures.ok c.in_default.not-Some)

pub returns-clause-results : goal.returns-clause-results
returns-clause-results g c =
    let laws = g.met.R.Station g.world.𝓛 g.world.𝓜 g.world.𝓡 ((λ s x. x), (λ x. x), (λ x. x), λ x. x) in
    let own = processors_own g.R.Station.next laws.own_reasons g.R.Station.tells c.args.desk.now.offers in
    let l = c.loop-schedule in
    let processors : Processors = processors_at g.R.Station.next g.R.Station.tells c.args.desk.now.offers in
    subst (λ (results : List BatchResult). MayComeOfAll processors (g.B.Base.entry c.args.base.now) (txs_of c.args.plan.now.batches) results)
    (sym c.in_ok-into_results.ensures)
    (ended-serial processors (g.B.Base.entry c.args.base.now) (txs_of c.args.plan.now.batches) l.schedule l.invariant.alone c.take.new.self
    (no-take l.schedule c.take.new.self c.in_ok-job.field-0 c.in_ok-job.ensures.ok c.in_default.not-Some) own)
