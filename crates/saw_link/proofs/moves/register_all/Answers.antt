use Rattle.std.proofs.Common.{arith, rules, Err, ap, refl, ◌∙◌}
use Rattle.saw_link.proofs.LinkRuns.{entering_none, entering_more}
use Rattle.saw_link.proofs.Stops.{registering_stops}
use Rattle.saw_link.proofs.moves.register_all.Goals as goal

pub loop-standing-init : goal.loop-standing-init
loop-standing-init g c = record { entering = entering_none _ _; asked = refl; still = refl; later = omega arith }

pub loop-standing-preserved : goal.loop-standing-preserved
loop-standing-preserved g c =
    let l = c.loop-standing in
    let e = c.in-Ok.ensures in
    record {
      entering = entering_more _ _ _ _ _ _ l.invariant.entering e.moved;
      asked = e.asked ∙ l.invariant.asked;
      still = e.still ∙ l.invariant.still;
      later = omega (arith, l.invariant.later, e.later);
    }

pub returns-in-Err-clause-stopped : goal.returns-in-Err-clause-stopped
returns-in-Err-clause-stopped g c = let l = c.loop-standing in
    registering_stops c.in-Err.trouble _ _ _ _ _ l.invariant.entering (search rules) c.in-Err.ensures.troubled
    (λ is. c.in-Err.ensures.early (ap Err is))
