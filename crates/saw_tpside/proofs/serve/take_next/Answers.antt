use Rattle.std.proofs.Common.{sym}
use Rattle.saw_tpside.proofs.Stepping.{has_taken}
use Rattle.saw_tpside.proofs.serve.take_next.Goals as goal

pub returns-clause-stepped : goal.returns-clause-stepped
returns-clause-stepped g c =
    let L = g.L.Link in
    has_taken c.args.serving c.in-Some.frame.items c.take_frame.result (L.told c.args.link.now) (L.told c.receive.new.self) (L.faults c.args.link.now)
    (L.faults c.receive.new.self) c.requires (rw c.in-Some.is at c.in_ok-frame.ensures.frame) c.take_frame.ensures
