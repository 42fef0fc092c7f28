use Rattle.std.proofs.Common.{◌≡◌, List}
use Rattle.saw_schedule.specs.Histories.{History}
use Rattle.saw_tickets.specs.Seats.{views_of}
use Rattle.saw_tickets.specs.declared.rule.View.{View}
use Rattle.saw_crew.proofs.Ended.{GivesSome}
use Rattle.saw_crew.proofs.locked.Locked.give_queue_back.Given as goal

-- what is claimed and given back from here on goes on with what was so far
abbrev pub invariant-loop : goal.invariant-loop
invariant-loop g l = record {
  given : (new : History) (views : List View) → GivesSome l.self.history new (views_of l.seat) views
      → GivesSome l.fn.self.history new (views_of l.fn.seat) views;
  offers : l.self.offers ≡ l.fn.self.offers;
}
