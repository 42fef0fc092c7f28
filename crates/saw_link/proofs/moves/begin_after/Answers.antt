use Rattle.std.proofs.Common.{◌≡◌, ◌⊎◌, inr, rules, refl, ◌∙◌}
use Rattle.saw_station.specs.Copies.{kept_tx}
use Rattle.saw_link.specs.LinkConversation.{Begins, Refuses}
use Rattle.saw_link.proofs.LinkRuns.{closed_none, spelled_ran}
use Rattle.saw_link.proofs.Steps.{ok_map}
use Rattle.saw_link.proofs.Stops.{begins_stops, closed_some, err_map, late_stops}
use Rattle.saw_link.proofs.moves.begin_after.Goals as goal

pub returns-then-is_none-clause-began : goal.returns-then-is_none-clause-began
returns-then-is_none-clause-began g c =
    ok_map c.begin_tx.result (λ moved. record {
      told_between = g.L.Link.told c.args.link.now;
      between = c.args.standing.now;
      closed_it = closed_none (g.L.Link.told c.args.link.now) c.args.standing.now (search rules);
      moved = moved;
    }) c.begin_tx.ensures.moved

pub returns-then-is_none-clause-stopped : goal.returns-then-is_none-clause-stopped
returns-then-is_none-clause-stopped g c =
    err_map c.begin_tx.result (begins_stops (kept_tx c.args.tx.now) (g.L.Link.told c.args.link.now) c.args.standing.now (g.L.Link.told c.begin_tx.new.link)
    (c.requires.more, search rules)) c.begin_tx.ensures.troubled

pub returns-in-Ok-begin_tx-clause-acts : goal.returns-in-Ok-begin_tx-clause-acts
returns-in-Ok-begin_tx-clause-acts g c tells spelled = c.in-Ok-begin_tx.ensures.acts tells (spelled_ran _ _ _ _ _ spelled c.in-Ok.ensures.closed.ran)

pub returns-in-Err-begin_tx-clause-stopped : goal.returns-in-Err-begin_tx-clause-stopped
returns-in-Err-begin_tx-clause-stopped g c =
    let closed_it = c.in-Ok.ensures.closed in
    late_stops (λ move. (move ≡ Refuses) ⊎ (move ≡ Begins (kept_tx c.args.tx.now))) c.in-Err-begin_tx.trouble c.late.result _ _ closed_it.moves closed_it.refuses
    (closed_some _ _ _ _ closed_it (search rules)) _ _ (Begins (kept_tx c.args.tx.now)) _ closed_it.ran c.late.ensures.value (inr refl)
    (c.in-Ok.ensures.still.1 ∙ c.requires.more, closed_it.done) c.in-Err-begin_tx.ensures.troubled
