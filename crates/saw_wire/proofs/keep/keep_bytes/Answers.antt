use Rattle.std.proofs.Common.{[], sym, ◌∙◌}
use Rattle.saw_wire.specs.Pieces.{seen}
use Rattle.saw_wire.specs.Fields.{chunk_in}
use Rattle.saw_wire.proofs.Pushes.{last_some, last_none}
use Rattle.saw_wire.proofs.keep.keep_bytes.Goals as goal

pub returns-in_ok-kept : goal.returns-in_ok-kept
returns-in_ok-kept c = λ pieces e. c.in_ok-kept.ensures ∙ sym
    (last_some (chunk_in c.args.field) [] c.in-Some.found.now pieces (seen c.args.bytes.now c.args.one.now) c.in-Some.ensures.some)

pub returns-in_default : goal.returns-in_default
returns-in_default c = λ pieces e. e ∙ sym (last_none (chunk_in c.args.field) [] pieces (seen c.args.bytes.now c.args.one.now)
    (rw c.in_default.is at c.chunk.ensures.none))
