use Rattle.saw_top.proofs.seats.seat.Goals as goal

pub returns-clause-offers : goal.returns-clause-offers
returns-clause-offers g c = c.fill.ensures.offers c.args.offers.items c.in_ok-shared.ensures.same
