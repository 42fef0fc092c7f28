use Rattle.std.proofs.Common.{refl, ◌∙◌}
use Rattle.saw_wire.specs.Pieces.{seen}
use Rattle.saw_wire.specs.Fields.{number_in}
use Rattle.saw_wire.proofs.Pushes.{last_some, last_none}
use Rattle.saw_wire.proofs.keep.keep_small.Goals as goal

pub returns-in-Some : goal.returns-in-Some
returns-in-Some c = λ pieces e. rw (last_some (number_in c.args.field) 0 c.in-Some.number pieces (seen c.args.bytes.now c.args.one.now)
    (c.number.ensures c.args.bytes.now ∙ c.in-Some.is)) refl

pub returns-in_default : goal.returns-in_default
returns-in_default c = λ pieces e. rw (last_none (number_in c.args.field) 0 pieces (seen c.args.bytes.now c.args.one.now)
    (c.number.ensures c.args.bytes.now ∙ c.in_default.is)) e
