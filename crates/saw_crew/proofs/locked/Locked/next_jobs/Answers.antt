use Rattle.std.proofs.Common.{◌≡◌, [], inr, rules, vec_len}
use Rattle.saw_tickets.specs.Seats.{views_of}
use Rattle.saw_crew.proofs.Ended.{none-left}
use Rattle.saw_crew.proofs.Rounds.{claims-none, claims-one}
use Rattle.saw_crew.proofs.locked.Locked.next_jobs.Goals as goal

pub returns-in-Some-clause-ok : goal.returns-in-Some-clause-ok
returns-in-Some-clause-ok g c =
    let zero : vec_len c.in_ok-jobs.jobs ≡ 0 = search rules in
    let none : c.in_ok-jobs.jobs.items ≡ [] = none-left c.in_ok-jobs.jobs.items (vec_len c.in_ok-jobs.jobs) c.in_ok-jobs.jobs.ok.0 zero in
    inr
    (claims-one c.args.self.now c.take_some.new.self (views_of c.args.seat.now) (views_of c.take_some.new.seat) (views_of c.claim.new.self) c.in_ok-jobs.jobs.items none c.in_ok-jobs.ensures.ok c.in_ok-jobs.ensures.none
    c.put_job.new.jobs.items c.in-Some.job c.in-Some.ensures.rule c.put_job.ensures.more)

pub returns-in-None-clause-none : goal.returns-in-None-clause-none
returns-in-None-clause-none g c = λ none.
    claims-none c.args.self.now c.take_some.new.self (views_of c.args.seat.now) (views_of c.take_some.new.seat) (views_of c.claim.new.self) c.in_ok-jobs.jobs.items none c.in_ok-jobs.ensures.ok c.in_ok-jobs.ensures.none
    c.in-None.ensures.rule
