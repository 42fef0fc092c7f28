use Rattle.std.proofs.Common.{◌≡◌, drop}
use Rattle.saw_schedule.specs.Histories.{History}
use Rattle.saw_crew.specs.Rounds.{GivesAll, tickets_of}
use Rattle.saw_crew.proofs.locked.Locked.give_all_back.Given as goal

-- whatever the jobs that are left lead to, all lead to
abbrev pub invariant-loop-job : goal.invariant-loop-job
invariant-loop-job g l = record {
  given : (new : History) → GivesAll l.self.history new (tickets_of (drop l.job-index l.jobs)) → GivesAll l.fn.self.history new (tickets_of l.jobs);
  offers : l.self.offers ≡ l.fn.self.offers;
}
