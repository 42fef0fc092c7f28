use Rattle.std.proofs.Common.{◌≡◌, true, false, refl}
use Rattle.std.specs.Str.{is_utf8}
use Rattle.std.proofs.lemmas.Str.{is_utf8-from_IsUtf8}
use Rattle.saw_wire.specs.Fields.{text_fault}
use Rattle.saw_wire.proofs.Texts.{not_text}
use Rattle.saw_wire.proofs.keep.text.Goals as goal

pub returns-in-Ok-clause-fine : goal.returns-in-Ok-clause-fine
unfolding text_fault
returns-in-Ok-clause-fine c =
    let yes : is_utf8 c.in-Some.found.now ≡ true = is_utf8-from_IsUtf8 _ c.in-Ok.ensures.cases.1 in
    rw (c.in-Some.ensures.some, yes) refl

pub returns-in-Err-clause-fault : goal.returns-in-Err-clause-fault
unfolding text_fault
returns-in-Err-clause-fault c =
    let no : is_utf8 c.in-Some.found.now ≡ false = not_text c.in-Some.found.now c.in-Err.ensures.cases.0 in
    rw (c.in-Some.ensures.some, no) refl
