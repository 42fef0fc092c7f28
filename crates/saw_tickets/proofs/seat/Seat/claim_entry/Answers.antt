use Rattle.std.proofs.Common.{ap, ◌∙◌}
use Rattle.crossbeam_deque.specs.Handles.{worker_view}
use Rattle.saw_tickets.specs.Seats.{other_views}
use Rattle.saw_tickets.proofs.Seats.{after_own}
use Rattle.saw_tickets.proofs.seat.Seat.claim_entry.Goals as goal

pub returns-in-None-clause-rule : goal.returns-in-None-clause-rule
returns-in-None-clause-rule g c =
    after_own _ _ _ _ c.claim_other.result (ap worker_view c.claim_other.ensures.own ∙ c.in-None.ensures.rule.0) c.in-None.ensures.rule.1
    (rw (ap (λ o. other_views o.items) c.in-None.ensures.others) at c.claim_other.ensures.rule)
