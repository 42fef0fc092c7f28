use Rattle.std.proofs.Common.{◌≡◌, ℕ, List, [], ap, subst, ◌∙◌, arith}
use Rattle.std.specs.Global.{Vec}
use Rattle.std.proofs.lemmas.Result.{IfOk-weaker}
use Rattle.saw_wire.specs.Writing.{spelled}
use Rattle.saw_link.specs.SentFrames.{framed}
use Rattle.std.specs.List.{AllByRecursion}
use Rattle.saw_linkmsg.specs.StateMessages.{tp_state_set_request_pieces}
use Rattle.saw_messages.specs.declared.talk.Action.TheVariants as actions
use Rattle.saw_tpside.proofs.Said.{says_set}
use Rattle.saw_tpside.specs.Understood.{Says}
use Rattle.saw_tpside.specs.WrittenTexts.{HasText}
use Rattle.saw_tpside.proofs.requests.set_frame.Goals as goal

pub returns-clause-says : goal.returns-clause-says
returns-clause-says c =
    let made_entries = c.in_ok-entries.entries in
    let content = c.in_ok-content.content in
    IfOk-weaker c.framed.result (λ (made : Vec ℕ). made.items ≡ framed 9 c.as_str.result.now content.items) (λ (made : Vec ℕ). Says c.args.context.now c.args.number.now (actions.Set c.args.entries.now) made.items)
    (λ made is.
    says_set c.args.context.now c.args.number.now c.args.entries.now made_entries content.items made.items c.is_text.ensures c.is_text-2.ensures
    (subst (AllByRecursion HasText) c.as_slice.ensures c.are_addresses.ensures) c.in_ok-entries.ensures.value c.in_ok-entries.ensures.entries
    (c.in_ok-content.ensures ∙ ap (λ (id : List ℕ). spelled (tp_state_set_request_pieces (record { context_id = id; entries = made_entries }))) c.in_ok-context_id.ensures)
    (omega (arith, content.small)) (is ∙ ap (λ (n : List ℕ). framed 9 n content.items) c.as_str.ensures) (omega (arith, made.small)))
    c.framed.ensures
