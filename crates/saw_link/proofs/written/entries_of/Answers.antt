use Rattle.std.proofs.Common.{arith, add-one, ◌∙◌}
use Rattle.saw_link.proofs.EntryLists.{entries_push, entries_whole}
use Rattle.saw_link.proofs.written.entries_of.Goals as goal

pub loop-i-preserved : goal.loop-i-preserved
loop-i-preserved c =
    let so_far = c.loop-i.invariant in
    rw (add-one, c.in_ok-push.ensures.ok, so_far, c.in_ok-entry_of.ensures)
    (entries_push c.args.texts.now c.args.bodies.now c.loop-i.i _ _ (omega arith) (omega arith) c.index-texts-i.is c.index-bodies-i.is)

pub returns : goal.returns
returns c = c.loop-i.invariant ∙ entries_whole c.args.texts.now c.args.bodies.now c.loop-i.i (omega arith)
