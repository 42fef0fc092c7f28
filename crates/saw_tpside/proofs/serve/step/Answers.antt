use Rattle.std.proofs.Common.{ℕ, List, Some, sym, ap, ◌∙◌}
use Rattle.std.proofs.lemmas.Result.{err_from_is_err_and}
use Rattle.saw_tpside.proofs.Stepping.{starved}
use Rattle.saw_tpside.proofs.serve.step.Goals as goal

pub returns-in_err-frame-clause-stepped : goal.returns-in_err-frame-clause-stepped
returns-in_err-frame-clause-stepped g c =
    let L = g.L.Link in
    let p = err_from_is_err_and c.from_residual.result c.from_residual.ensures.1 in
    rw (p.1, p.2) (starved c.args.serving (L.told c.args.link.now) (L.faults c.args.link.now) (L.faults c.args.link.now))

pub take_next-requires : goal.take_next-requires
take_next-requires g c = sym (rw c.in_default.is at c.in_ok-frame.ensures.value)

pub returns-in_default-clause-stepped : goal.returns-in_default-clause-stepped
returns-in_default-clause-stepped g c = c.take_next.ensures.stepped

pub send_due-requires : goal.send_due-requires
send_due-requires g c =
    sym (rw c.in-Some.is at c.in_ok-frame.ensures.value) ∙ ap (λ (frame : List ℕ). Some frame) (sym c.deref.ensures.value)

pub returns-clause-stepped : goal.returns-clause-stepped
returns-clause-stepped g c = c.send_due.ensures.stepped
