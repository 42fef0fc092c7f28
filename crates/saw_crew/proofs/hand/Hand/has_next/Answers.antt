use Rattle.std.proofs.Common.{length}
use Rattle.saw_tickets.specs.Seats.{views_of}
use Rattle.saw_crew.proofs.InHand.{found-one}
use Rattle.saw_crew.proofs.hand.Hand.has_next.Goals as goal

pub returns-clause-yes : goal.returns-clause-yes
returns-clause-yes g c =
    found-one (views_of c.deref_mut.result.now) (views_of c.claim_more.new.seat) c.args.self.now.jobs.items c.claim_more.new.jobs.items (length c.args.self.now.done.items) c.claim_more.result
    c.requires c.claim_more.ensures.ok
