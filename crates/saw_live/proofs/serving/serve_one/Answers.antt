use Rattle.std.proofs.Common.{Ok, ap, ◌∙◌}
use Rattle.std.proofs.lemmas.Result.{err_from_is_err_and}
use Rattle.saw_live.proofs.NextFrame.{read_fault, read_none}
use Rattle.saw_live.proofs.serving.serve_one.Goals as goal

pub returns-in_err-question-clause-fault : goal.returns-in_err-question-clause-fault
returns-in_err-question-clause-fault g c =
    let took = c.in_err-question.ensures.err in
    let p = err_from_is_err_and c.from_residual.result c.from_residual.ensures.1 in
    rw (p.1, p.2) (read_fault g.H.NodeHasher.hash_of _ _ _ _ c.read_frame.result c.in_err-question.field-0.0 c.in_err-question.was
    c.read_frame.ensures.told took.0 took.2)

pub returns-in_default-clause-next : goal.returns-in_default-clause-next
returns-in_default-clause-next g c = read_none g.H.NodeHasher.hash_of _ _ _ _ c.read_frame.result (c.in_ok-question.was ∙ ap (λ found. Ok found) c.in_default.is) c.read_frame.ensures.told
