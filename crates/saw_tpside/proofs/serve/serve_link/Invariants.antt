use Rattle.std.proofs.Common.{◌≤◌}
use Rattle.saw_tpside.specs.ProcessorConversation.{starting}
use Rattle.saw_tpside.proofs.Stepping.{SoFar}
use Rattle.saw_tpside.proofs.serve.serve_link.Given as goal

abbrev pub invariant-loop : goal.invariant-loop
invariant-loop g l = SoFar (starting l.fn.offers l.fn.version) (g.L.Link.told l.fn.link) (g.L.Link.told l.link) l.serving
    × (g.L.Link.faults l.fn.link ≤ g.L.Link.faults l.link)
