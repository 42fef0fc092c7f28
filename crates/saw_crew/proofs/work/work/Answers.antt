use Rattle.std.proofs.Common.{List, sym, subst}
use Rattle.std.specs.List.{AllByRecursion}
use Rattle.saw_context.specs.Outcome.{Processors}
use Rattle.saw_context.specs.SoundResults.{IsSoundDone}
use Rattle.saw_station.specs.Serving.{processors_at}
use Rattle.saw_station.specs.declared.offer.Offer.{Offer}
use Rattle.saw_crew.proofs.Leaving.{keeps_trans}
use Rattle.saw_crew.proofs.work.work.Goals as goal

pub loop-preserved : goal.loop-preserved
loop-preserved g c =
    let at : List Offer → Processors = processors_at g.R.Station.next g.R.Station.tells in record {
      sound = subst (λ (offers : List Offer). AllByRecursion (IsSoundDone (at offers)) c.run_round-well.new.hand.done.items) (sym c.run_round-well.ensures.desk.offers) c.run_round-well.ensures.sound;
      first = c.run_round-well.ensures.first;
      desk = keeps_trans g.R.Station.faults g.R.Station.offered c.args.desk.now c.loop.desk c.run_round-well.new.desk c.loop.invariant.desk c.run_round-well.ensures.desk;
    }
