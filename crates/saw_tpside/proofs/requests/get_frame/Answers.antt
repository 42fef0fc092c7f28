use Rattle.std.proofs.Common.{◌≡◌, ℕ, List, [], ap, subst, ◌∙◌, arith}
use Rattle.std.specs.Global.{Vec}
use Rattle.std.proofs.lemmas.Result.{IfOk-weaker}
use Rattle.saw_wire.specs.Writing.{spelled}
use Rattle.saw_link.specs.SentFrames.{framed}
use Rattle.std.specs.List.{AllByRecursion}
use Rattle.saw_linkmsg.specs.StateMessages.{tp_state_get_request_pieces}
use Rattle.saw_messages.specs.ReadBack.{IsText}
use Rattle.saw_messages.specs.declared.talk.Action.TheVariants as actions
use Rattle.saw_tpside.proofs.Said.{says_get}
use Rattle.saw_tpside.specs.Understood.{Says}
use Rattle.saw_tpside.proofs.requests.get_frame.Goals as goal

pub returns-clause-says : goal.returns-clause-says
returns-clause-says c =
    let texts = c.in_ok-addresses.addresses in
    let content = c.in_ok-content.content in
    IfOk-weaker c.framed.result (λ (made : Vec ℕ). made.items ≡ framed 7 c.as_str.result.now content.items) (λ (made : Vec ℕ). Says c.args.context.now c.args.number.now (actions.Get c.args.places.now) made.items)
    (λ made is.
    says_get c.args.context.now c.args.number.now c.args.places.now texts content.items made.items c.is_text.ensures c.is_text-2.ensures
    (subst (AllByRecursion IsText) c.as_slice.ensures c.are_texts.ensures) c.in_ok-addresses.ensures.value c.in_ok-addresses.ensures.places
    (c.in_ok-content.ensures ∙ ap (λ (id : List ℕ). spelled (tp_state_get_request_pieces (record { context_id = id; addresses = texts }))) c.in_ok-context_id.ensures)
    (omega (arith, content.small)) (is ∙ ap (λ (n : List ℕ). framed 7 n content.items) c.as_str.ensures) (omega (arith, made.small)))
    c.framed.ensures
