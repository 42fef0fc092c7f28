use Rattle.std.proofs.Common.{◌≡◌, ℕ, List, [], ap, subst, ◌∙◌, arith}
use Rattle.std.specs.Global.{Vec}
use Rattle.std.proofs.lemmas.Result.{IfOk-weaker}
use Rattle.saw_wire.specs.Writing.{spelled}
use Rattle.saw_link.specs.SentFrames.{framed}
use Rattle.saw_linkmsg.specs.ProcessMessages.{tp_process_response_pieces}
use Rattle.saw_messages.specs.ReadBack.{IsText}
use Rattle.saw_tpside.proofs.Said.{is_end}
use Rattle.saw_tpside.specs.Understood.{IsEnd}
use Rattle.saw_tpside.proofs.requests.end_frame.Goals as goal

pub returns-clause-says : goal.returns-clause-says
returns-clause-says c =
    let content = c.in_ok-content.content in
    IfOk-weaker c.framed.result (λ (made : Vec ℕ). made.items ≡ framed 6 c.as_str.result.now content.items) (λ (made : Vec ℕ). IsEnd c.args.context.now c.args.status made.items)
    (λ made is.
    is_end c.args.context.now c.args.status content.items made.items
    (subst IsText c.new.ensures c.is_text-2.ensures) c.is_text.ensures (omega arith)
    (c.in_ok-content.ensures ∙ ap (λ (text : List ℕ). spelled (tp_process_response_pieces (record { status = c.args.status; message = text }))) c.new.ensures)
    (omega (arith, content.small)) (is ∙ ap (λ (n : List ℕ). framed 6 n content.items) c.as_str.ensures) (omega (arith, made.small)))
    c.framed.ensures
