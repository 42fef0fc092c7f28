use Rattle.std.proofs.Common.{◌≡◌}
use Rattle.std.specs.List.{AllByRecursion}
use Rattle.saw_context.specs.SoundResults.{IsSoundDone}
use Rattle.saw_schedule.specs.Histories.{History}
use Rattle.saw_station.specs.Serving.{processors_at}
use Rattle.saw_crew.specs.Rounds.{FinishesAll}
use Rattle.saw_crew.proofs.locked.Locked.finish_all.Given as goal

-- whatever the results that are left lead to, all lead to; and these are true
abbrev pub invariant-loop-one : goal.invariant-loop-one
invariant-loop-one g l = record {
  finished : (new : History) → FinishesAll l.self.history new l.one-iterator.rest.items → FinishesAll l.fn.self.history new l.fn.done.items;
  sound : AllByRecursion (IsSoundDone (processors_at g.R.Station.next g.R.Station.tells l.self.offers)) l.one-iterator.rest.items;
  offers : l.self.offers ≡ l.fn.self.offers;
}
