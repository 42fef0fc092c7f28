use Rattle.std.proofs.Common.{[], sym, ◌∙◌}
use Rattle.saw_wire.specs.Pieces.{seen}
use Rattle.saw_wire.specs.Fields.{chunk_in}
use Rattle.saw_wire.proofs.Pushes.{last_some, last_none}
use Rattle.saw_wire.proofs.keep.keep_text.Goals as goal

pub returns-in_ok-kept-clause-ok : goal.returns-in_ok-kept-clause-ok
returns-in_ok-kept-clause-ok c = λ pieces e. c.in_ok-kept.ensures
    ∙ sym (last_some (chunk_in c.args.field) [] c.in-Some.found.now pieces (seen c.args.bytes.now c.args.one.now)
    (rw c.in-Some.is at c.in_ok-found.ensures.some))

pub returns-in_default-clause-ok : goal.returns-in_default-clause-ok
returns-in_default-clause-ok c = λ pieces e. e ∙ sym (last_none (chunk_in c.args.field) [] pieces (seen c.args.bytes.now c.args.one.now)
    (rw c.in_default.is at c.in_ok-found.ensures.none))
