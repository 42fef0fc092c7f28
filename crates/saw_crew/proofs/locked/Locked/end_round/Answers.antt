use Rattle.saw_tickets.specs.Seats.{views_of}
use Rattle.saw_crew.specs.Rounds.{tickets_of}
use Rattle.saw_crew.proofs.Ended.{ends-worker, still-ended}
use Rattle.saw_crew.proofs.locked.Locked.end_round.Goals as goal

pub returns-clause-no : goal.returns-clause-no
returns-clause-no g c = λ ended.
    ends-worker c.end-kept.result c.args.self.now.history c.end-kept.new.self.history c.give_queue_back.new.self.history (views_of c.args.seat.now) (views_of c.give_queue_back.new.seat) c.args.jobs.now c.args.done.items
    c.end-kept.ensures.yes c.end-kept.ensures.no c.give_queue_back.ensures.given

pub returns-clause-ended : goal.returns-clause-ended
returns-clause-ended g c =
    still-ended c.end-kept.new.self.history c.give_queue_back.new.self.history (views_of c.args.seat.now) (views_of c.give_queue_back.new.seat) (tickets_of c.args.jobs.now) c.give_queue_back.ensures.given
    c.end-kept.ensures.ended
