use Rattle.std.proofs.Common.{◌≡◌, ◌≤◌, vec_capacity, vec_len}
use Rattle.saw_tickets.specs.Seats.{capacity_of, views_of}
use Rattle.saw_crew.proofs.Rounds.{Taking}
use Rattle.saw_crew.proofs.locked.Locked.take_more.Given as goal

-- what was taken so far, and room for the rest
abbrev pub invariant-loop : goal.invariant-loop
invariant-loop g l = record {
  taken : Taking l.fn.self l.self (views_of l.fn.seat) (views_of l.seat) (capacity_of l.fn.seat) l.fn.jobs.items l.jobs.items;
  capacity : capacity_of l.seat ≡ capacity_of l.fn.seat;
  few : vec_len l.jobs ≤ l.counter;
  room : 32 ≤ vec_capacity l.jobs;
}
