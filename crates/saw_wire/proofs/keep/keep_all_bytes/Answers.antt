use Rattle.std.proofs.Common.{sym, ◌∙◌}
use Rattle.saw_wire.specs.Pieces.{seen}
use Rattle.saw_wire.specs.Fields.{chunk_in}
use Rattle.saw_wire.proofs.Pushes.{all_some, all_none}
use Rattle.saw_wire.proofs.keep.keep_all_bytes.Goals as goal

pub returns-in_ok-push : goal.returns-in_ok-push
returns-in_ok-push c = λ pieces e. rw (
  all_some (chunk_in c.args.field) pieces
      (seen c.args.bytes.now c.args.one.now) c.in-Some.found.now c.in-Some.ensures.some,
  ← e,
  ← c.in_ok-from_slice.ensures,
) c.in_ok-push.ensures.ok

pub returns-in_default : goal.returns-in_default
returns-in_default c = λ pieces e. e ∙ sym (all_none (chunk_in c.args.field) pieces (seen c.args.bytes.now c.args.one.now)
    (rw c.in_default.is at c.chunk.ensures.none))
