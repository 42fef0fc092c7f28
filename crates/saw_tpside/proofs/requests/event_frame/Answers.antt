use Rattle.std.proofs.Common.{◌≡◌, ℕ, List, [], ap, subst, ◌∙◌, arith}
use Rattle.std.specs.Global.{Vec}
use Rattle.std.proofs.lemmas.Result.{IfOk-weaker}
use Rattle.saw_wire.specs.Writing.{spelled}
use Rattle.saw_link.specs.SentFrames.{framed}
use Rattle.saw_linkmsg.specs.EventMessages.{tp_event_add_request_pieces}
use Rattle.saw_messages.specs.declared.receipt.Event.{Event}
use Rattle.saw_messages.specs.declared.talk.Action.TheVariants as actions
use Rattle.saw_tpside.proofs.Said.{says_event}
use Rattle.saw_tpside.specs.Understood.{Says}
use Rattle.saw_tpside.proofs.requests.event_frame.Goals as goal

pub returns-clause-says : goal.returns-clause-says
returns-clause-says c =
    let content = c.in_ok-content.content in
    IfOk-weaker c.framed.result (λ (made : Vec ℕ). made.items ≡ framed 15 c.as_str.result.now content.items) (λ (made : Vec ℕ). Says c.args.context.now c.args.number.now (actions.AddEvent c.args.event.now) made.items)
    (λ made is.
    says_event c.args.context.now c.args.number.now c.args.event.now content.items made.items c.is_text.ensures c.is_text-2.ensures c.is_event.ensures
    (c.in_ok-content.ensures ∙ ap (λ (id : List ℕ). spelled (tp_event_add_request_pieces (record { context_id = id; event = c.in_ok-event.event }))) c.in_ok-context_id.ensures
    ∙ ap (λ (event : Event). spelled (tp_event_add_request_pieces (record { context_id = c.args.context.now; event = event }))) c.in_ok-event.ensures)
    (omega (arith, content.small)) (is ∙ ap (λ (n : List ℕ). framed 15 n content.items) c.as_str.ensures) (omega (arith, made.small)))
    c.framed.ensures
