use Rattle.std.specs.List.{flat_map}
use Rattle.std.proofs.KnownBytes.{Appends-trans}
use Rattle.std.proofs.lemmas.Result.{err_from_is_err_and, on_err_weaker, on_ok_weaker}
use Rattle.saw_report.specs.Lines.{candidate_line, loss_line}
use Rattle.saw_top.specs.Publishing.{refusal_text}
use Rattle.saw_top.proofs.OneByOne.{first_cut, second_cut}
use Rattle.saw_top.proofs.publishing.tell_losses.Goals as goal

pub returns-in_err-write_lines-clause-err : goal.returns-in_err-write_lines-clause-err
returns-in_err-write_lines-clause-err g c =
    let p = err_from_is_err_and c.from_residual.result c.from_residual.ensures.1 in
    let cut = rw c.as_slice.ensures at c.in_err-write_lines.ensures.err in
    rw (p.1) (first_cut (flat_map loss_line c.args.made.now.dropped) (refusal_text c.args.made.now.refusal) _ _ cut)

pub returns-in-Some-clause-ok : goal.returns-in-Some-clause-ok
returns-in-Some-clause-ok g c =
    let before = rw c.as_slice.ensures at c.in_ok-write_lines.ensures.ok in
    rw (c.in-Some.is) (on_ok_weaker c.tell_refusal.result (λ told. Appends-trans _ _ _ _ _ before told) c.tell_refusal.ensures.ok)

pub returns-in-Some-clause-err : goal.returns-in-Some-clause-err
returns-in-Some-clause-err g c =
    let before = rw c.as_slice.ensures at c.in_ok-write_lines.ensures.ok in
    let line = candidate_line c.in-Some.refusal.k c.in-Some.refusal.fault in
    rw (c.in-Some.is) (on_err_weaker c.tell_refusal.result (λ cut. second_cut (flat_map loss_line c.args.made.now.dropped) line _ _ _ before cut)
    c.tell_refusal.ensures.err)
