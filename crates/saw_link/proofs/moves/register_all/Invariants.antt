use Rattle.std.proofs.Common.{◌≡◌, ◌≤◌, ◌-◌}
use Rattle.saw_link.proofs.LinkRuns.{Entering}
use Rattle.saw_link.proofs.moves.register_all.Given as goal

abbrev pub invariant-loop-standing : goal.invariant-loop-standing
invariant-loop-standing g l = record {
  entering : Entering (g.L.Link.told l.fn.link) l.fn.standing (g.L.Link.told l.link) l.standing;
  asked : l.standing.asked ≡ l.fn.standing.asked;
  still : l.standing.refused ≡ l.fn.standing.refused;
  later : g.L.Link.faults l.fn.link ≤ g.L.Link.faults l.link;
}

abbrev pub decreases-loop-standing : goal.decreases-loop-standing
decreases-loop-standing g l = 101 - l.standing.registrations
