use Rattle.std.proofs.Common.{sym, ◌∙◌}
use Rattle.saw_wire.specs.Pieces.{seen}
use Rattle.saw_wire.specs.Fields.{chunk_in}
use Rattle.saw_wire.proofs.Pushes.{all_some, all_none}
use Rattle.saw_wire.proofs.keep.keep_texts.Goals as goal

pub returns-in_ok-push-clause-ok : goal.returns-in_ok-push-clause-ok
returns-in_ok-push-clause-ok c = λ pieces e. rw (
  all_some (chunk_in c.args.field) pieces (seen c.args.bytes.now c.args.one.now) c.in-Some.found.now
      (rw c.in-Some.is at c.in_ok-found.ensures.some),
  ← e,
  ← c.in_ok-from_str.ensures,
) c.in_ok-push.ensures.ok

pub returns-in_default-clause-ok : goal.returns-in_default-clause-ok
returns-in_default-clause-ok c = λ pieces e. e ∙ sym (all_none (chunk_in c.args.field) pieces (seen c.args.bytes.now c.args.one.now)
    (rw c.in_default.is at c.in_ok-found.ensures.none))
