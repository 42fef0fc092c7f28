use Rattle.std.proofs.Common.{sym, subst}
use Rattle.saw_tpside.specs.ServedLinks.{ServesOn}
use Rattle.saw_tpside.specs.declared.serving.Serving.{Serving}
use Rattle.saw_tpside.proofs.Stepping.{goes_on_sent}
use Rattle.saw_tpside.proofs.serve.send_due.Goals as goal

pub returns-clause-stepped : goal.returns-clause-stepped
returns-clause-stepped g c =
    let L = g.L.Link in
    subst (λ (next : Serving). ServesOn c.args.serving (L.told c.args.link.now) (L.told c.send.new.self) next) (sym c.after_sent.ensures)
    (goes_on_sent c.args.serving c.args.frame.now (L.told c.args.link.now) (L.told c.send.new.self) c.requires c.in_ok-send.ensures.ok)
