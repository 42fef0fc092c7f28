use Rattle.std.proofs.Common.{List, refl, sym, subst, ◌∙◌}
use Rattle.std.specs.List.{AllByRecursion}
use Rattle.saw_context.specs.Outcome.{Processors}
use Rattle.saw_context.specs.SoundResults.{IsSoundDone}
use Rattle.saw_station.specs.Serving.{processors_at}
use Rattle.saw_station.specs.declared.offer.Offer.{Offer}
use Rattle.saw_crew.specs.Rounds.{FinishesAll}
use Rattle.saw_crew.proofs.Ended.{none-left}
use Rattle.saw_crew.proofs.locked.Locked.finish_all.Goals as goal

pub loop-one-init : goal.loop-one-init
loop-one-init g c =
    let items = c.into_iter-one-iterator.ensures.into_iter_gives.0 in record {
      finished = λ new is. subst (FinishesAll c.args.self.now.history new) items is;
      sound = subst (AllByRecursion (IsSoundDone (processors_at g.R.Station.next g.R.Station.tells c.args.self.now.offers))) (sym items) c.requires.sound;
      offers = refl;
    }

pub finish-requires-clause-sound : goal.finish-requires-clause-sound
finish-requires-clause-sound g c κs within = (rw c.in-Some.ensures.steps.0 at c.loop-one.invariant.sound).0

pub loop-one-preserved : goal.loop-one-preserved
loop-one-preserved g c =
    let left = c.in-Some.ensures.steps.0 in
    let at : List Offer → Processors = processors_at g.R.Station.next g.R.Station.tells in record {
      finished = λ new is.
          c.loop-one.invariant.finished new (subst (FinishesAll c.loop-one.self.history new) (sym left) (c.finish.new.self.history, c.finish.ensures.finished, is));
      sound = subst (λ (offers : List Offer). AllByRecursion (IsSoundDone (at offers)) c.next.new.self.rest.items) (sym c.finish.ensures.offers)
          (rw left at c.loop-one.invariant.sound).1;
      offers = c.finish.ensures.offers ∙ c.loop-one.invariant.offers;
    }

pub returns-clause-finished : goal.returns-clause-finished
returns-clause-finished g c =
    let rest = c.loop-one.one-iterator.rest in
    c.loop-one.invariant.finished c.loop-one.self.history
    (subst (FinishesAll c.loop-one.self.history c.loop-one.self.history) (sym (none-left rest.items rest.len rest.ok.0 c.in-None.ensures.steps.0)) refl)

pub returns-clause-offers : goal.returns-clause-offers
returns-clause-offers g c = c.loop-one.invariant.offers
