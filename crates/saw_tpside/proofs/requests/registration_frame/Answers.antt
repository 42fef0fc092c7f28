use Rattle.std.proofs.Common.{◌≡◌, ℕ, List, [], ◌+◌, ap, subst, ◌∙◌, arith}
use Rattle.std.specs.Global.{Vec}
use Rattle.std.proofs.lemmas.Result.{IfOk-weaker}
use Rattle.saw_wire.specs.Writing.{spelled}
use Rattle.saw_link.specs.SentFrames.{framed}
use Rattle.saw_linkmsg.specs.RegisterMessages.{tp_register_request_pieces}
use Rattle.saw_messages.specs.ReadBack.{IsText}
use Rattle.saw_tpside.proofs.Said.{is_registration}
use Rattle.saw_tpside.specs.Understood.{IsRegistration}
use Rattle.saw_tpside.proofs.requests.registration_frame.Goals as goal

pub returns-clause-says : goal.returns-clause-says
returns-clause-says c =
    let content = c.in_ok-content.content in
    let number = c.in_ok-number.number in
    let offer = c.args.offer.now in
    let family = c.in_ok-try_clone.field-0 in
    let version = c.in_ok-try_clone-2.field-0 in
    let R : List ℕ → List ℕ → List (List ℕ) → List ℕ = λ f v n.
    spelled (tp_register_request_pieces (record { family = f; version = v; namespaces = n; protocol_version = c.args.protocol_version; more = c.args.more })) in
    IfOk-weaker c.framed.result (λ (made : Vec ℕ). made.items ≡ framed 1 c.as_str.result.now content.items)
    (λ (made : Vec ℕ). IsRegistration (c.args.registered + 1) c.args.protocol_version c.args.more offer made.items)
    (λ made is.
    is_registration (c.args.registered + 1) c.args.protocol_version c.args.more offer content.items made.items
    (subst IsText c.in_ok-number.ensures c.is_text.ensures) (subst IsText c.in_ok-try_clone.ensures c.is_text-2.ensures)
    (subst IsText c.in_ok-try_clone-2.ensures c.is_text-3.ensures) (omega arith)
    (c.in_ok-content.ensures ∙ ap (λ (f : List ℕ). R f version c.new.result) c.in_ok-try_clone.ensures ∙ ap (λ (v : List ℕ). R offer.family v c.new.result) c.in_ok-try_clone-2.ensures
    ∙ ap (λ (n : List (List ℕ)). R offer.family offer.version n) c.new.ensures)
    (omega (arith, content.small)) (is ∙ ap (λ (n : List ℕ). framed 1 n content.items) (c.as_str.ensures ∙ c.in_ok-number.ensures)) (omega (arith, made.small)))
    c.framed.ensures
