use Rattle.std.proofs.Common.{◌∙◌, length, ap, sym}
use Rattle.saw_tickets.proofs.Seats.{written_back}
use Rattle.saw_tickets.proofs.seat.Seat.claim_other.Goals as goal

pub returns-clause-rule : goal.returns-clause-rule
returns-clause-rule g c =
    let value = c.as_mut_slice.ensures.value in
    let same = c.steal_from.auto.others ∙ ap length value in
    let len = sym c.as_mut_slice.ensures.len ∙ ap length value in rw (written_back c.steal_from.new.others c.args.self.now.others.items c.args.self.now.others.len same len, ← value) c.steal_from.ensures.rule
