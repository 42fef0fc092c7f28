use Rattle.std.proofs.Common.{sym, ◌∙◌}
use Rattle.saw_xo.proofs.Entries.{entries_whole, entries_missing}
use Rattle.saw_xo.proofs.games.entries_in.Goals as goal

pub returns-in_default : goal.returns-in_default
returns-in_default c =
    entries_missing c.args.text.now c.in_ok-parts.parts.items c.deref-part-items.result.now c.loop-part.part-index _ c.in_ok-parts.ensures
    c.deref-part-items.ensures.value c.loop-part-test.true (sym c.in_ok-entry.ensures ∙ c.in_default.is)

pub returns : goal.returns
returns c =
    entries_whole c.args.text.now c.in_ok-parts.parts.items c.deref-part-items.result.now c.loop-part.entries.items c.loop-part.part-index
    c.in_ok-parts.ensures c.deref-part-items.ensures.value c.loop-part-test.false c.loop-part.invariant
