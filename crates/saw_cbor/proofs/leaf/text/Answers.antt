use Rattle.std.proofs.Common.{◌≡◌, ◌+◌, ◌∙◌, length, inr, true, false, Ok, sym, ap}
use Rattle.std.specs.Str.{is_utf8}
use Rattle.std.proofs.lemmas.Str.{is_utf8-from_IsUtf8}
use Rattle.saw_wire.proofs.Texts.{not_text}
use Rattle.saw_cbor.specs.Data.{text}
use Rattle.saw_cbor.specs.View.{head_view}
use Rattle.saw_cbor.proofs.Leaves.{text_is, text_is_not}
use Rattle.saw_cbor.proofs.Views.{view-Text}
use Rattle.saw_cbor.proofs.leaf.text.Goals as goal

pub returns-in_default-clause-gives : goal.returns-in_default-clause-gives
returns-in_default-clause-gives c =
    let content = c.in_ok-content.content.now in
    let no : is_utf8 content ≡ false = not_text content c.in_default.ensures.cases.0 in
    inr (text_is_not (head_view c.args.head) c.args.bytes.now content (c.args.head.behind + length content) c.requires.major c.in_ok-content.ensures.gives no)

pub returns-clause-gives : goal.returns-clause-gives
returns-clause-gives c =
    let content = c.in_ok-content.content.now in
    let end = c.args.head.behind + length content in
    let yes : is_utf8 content ≡ true = is_utf8-from_IsUtf8 _ c.in-Ok.ensures.cases.1 in
    let same : c.in_ok-from_str.field-0 ≡ content = c.in_ok-from_str.ensures ∙ c.in-Ok.ensures.cases.0 in
    text_is (head_view c.args.head) c.args.bytes.now content end c.requires.major c.in_ok-content.ensures.gives yes
    ∙ ap (λ t. Ok (t, end)) (sym (view-Text c.in_ok-from_str.field-0 ∙ ap text same))
