use Rattle.std.proofs.Common.{rules, arith, refl, ◌∙◌}
use Rattle.saw_link.specs.LinkConversation.{Refuses}
use Rattle.saw_link.proofs.LinkRuns.{closing_none, closing_more}
use Rattle.saw_link.proofs.Stops.{closing_stops, late_stops}
use Rattle.saw_link.proofs.moves.close_open.Goals as goal

pub loop-alloc-init : goal.loop-alloc-init
loop-alloc-init g c = record {
  closing = closing_none _ _;
  untouched = λ _. (refl, refl);
  last = refl;
  offers = refl;
  still = λ _. c.requires;
  more = refl;
  later = omega arith;
}

pub loop-alloc-preserved : goal.loop-alloc-preserved
loop-alloc-preserved g c =
    let l = c.loop-alloc in
    let e = c.in-Ok.ensures in
    record {
      closing = closing_more _ _ _ _ _ _ _ l.invariant.closing (e.moved (search rules));
      untouched = λ no. absurd cc;
      last = e.last ∙ l.invariant.last;
      offers = e.offers ∙ l.invariant.offers;
      still = e.still (search rules);
      more = e.more ∙ l.invariant.more;
      later = omega (arith, l.invariant.later, e.later);
    }
