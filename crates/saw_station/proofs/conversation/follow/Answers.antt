use Rattle.std.proofs.Common.{◌≡◌, ◌-◌, ◌+◌, true, false, inl, inr, refl, sym, ◌∙◌, arith}
use Rattle.saw_context.specs.Access.{map_of_access}
use Rattle.saw_context.specs.Outcome.{is_request, max_requests}
use Rattle.saw_station.proofs.Talks.{follows_kept, one_more, reply_fits, spoken_step, spoken_whole}
use Rattle.saw_station.proofs.conversation.follow.Goals as goal

pub returns-then-not-is_request-clause-spoken : goal.returns-then-not-is_request-clause-spoken
returns-then-not-is_request-clause-spoken g c =
    let l = c.requests in
    let e = c.in_ok-action.ensures in
    let is : is_request c.in_ok-action.action ≡ false = sym c.is_request.ensures ∙ c.if-not-is_request.true in
    spoken_whole g.S.Station.tells (g.S.Station.next c.args.tx.now) c.args.tx.now.header c.args.context.now.base c.args.context.now.layers
    l.talk.turns l.context c.in_ok-action.action e.reason e.told (max_requests - l.counter) _ _ _
    (inl is) l.invariant.so_far refl refl refl

pub requests-preserved : goal.requests-preserved
requests-preserved g c =
    let l = c.requests in
    let e = c.in_ok-action.ensures in
    let added = c.in_ok-add_turn.ensures in
    let is : is_request c.in_ok-action.action ≡ true = sym c.is_request.ensures ∙ c.if-not-is_request.false in
    record {
      begun = e.begun;
      offers = e.offers ∙ l.invariant.offers;
      later = omega (arith, l.invariant.later, e.later);
      follows = rw added.turns (inr (follows_kept (g.S.Station.last c.step.new.self)
          c.args.tx.now l.talk.turns c.in_ok-action.action _ e.keeps
          (reply_fits l.context.header (map_of_access l.context) l.context.own c.in_ok-action.action is)));
      so_far = rw (added.turns, added.after)
          (one_more g.S.Station.tells (g.S.Station.next c.args.tx.now) c.args.tx.now.header c.args.context.now.base c.args.context.now.layers
          l.talk.turns l.context c.in_ok-action.action e.reason e.told (max_requests - l.counter) (max_requests - (l.counter + 1))
          (omega arith) is l.invariant.so_far);
    }

pub returns-clause-spoken : goal.returns-clause-spoken
returns-clause-spoken g c =
    let l = c.requests in
    let e = c.step-2.ensures in
    spoken_step g.S.Station.tells (g.S.Station.next c.args.tx.now) c.args.tx.now.header c.args.context.now.base c.args.context.now.layers
    l.talk.turns l.context (max_requests - l.counter) c.step-2.result e.reason e.told (omega arith) l.invariant.so_far
