use Rattle.std.specs.List.{AllByRecursion}
use Rattle.saw_context.specs.SoundResults.{IsSoundDone}
use Rattle.saw_station.specs.Serving.{processors_at}
use Rattle.saw_crew.specs.Desks.{KeepsDesk}
use Rattle.saw_crew.specs.Rounds.{AreOfFirst}
use Rattle.saw_crew.proofs.work.work.Given as goal

-- the results in hand are true at its offers, and those of the first jobs in hand
abbrev pub invariant-loop : goal.invariant-loop
invariant-loop g l = record {
  sound : AllByRecursion (IsSoundDone (processors_at g.R.Station.next g.R.Station.tells l.desk.offers)) l.hand.done.items;
  first : AreOfFirst l.hand.done.items l.hand.jobs.items;
  desk : KeepsDesk g.R.Station.faults g.R.Station.offered l.fn.desk l.desk;
}
