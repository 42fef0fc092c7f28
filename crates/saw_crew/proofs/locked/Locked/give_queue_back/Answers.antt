use Rattle.std.proofs.Common.{List, refl, sym, subst, ◌∙◌}
use Rattle.saw_tickets.specs.Seats.{views_of}
use Rattle.saw_tickets.specs.declared.rule.View.{View}
use Rattle.saw_crew.proofs.Ended.{GivesSome, gives-none, gives-one, queue-given}
use Rattle.saw_crew.proofs.locked.Locked.give_queue_back.Goals as goal

pub loop-init : goal.loop-init
loop-init g c = record { given = λ new views gave. gave; offers = refl }

pub loop-preserved : goal.loop-preserved
loop-preserved g c = record {
  given = λ new views gave.
      c.loop.invariant.given new views
      (gives-one c.loop.self.history c.give_back.new.self.history new (views_of c.loop.seat) (views_of c.claim_own.new.self) views c.in-Some-claim_own.job c.in-Some-claim_own.ensures.rule c.give_back.ensures.given gave);
  offers = c.give_back.ensures.offers ∙ c.loop.invariant.offers;
}

pub returns-in-None-claim_own-clause-given : goal.returns-in-None-claim_own-clause-given
returns-in-None-claim_own-clause-given g c =
    let h = c.loop.self.history in
    let views = views_of c.claim_own.new.self in
    queue-given c.args.self.now.history h (views_of c.args.seat.now) views
    (c.loop.invariant.given h views (subst (λ (vs : List View). GivesSome h h (views_of c.loop.seat) vs) (sym c.in-None-claim_own.ensures.rule.0) (gives-none h (views_of c.loop.seat))))
