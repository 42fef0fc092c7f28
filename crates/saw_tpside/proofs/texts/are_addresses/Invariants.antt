use Rattle.std.proofs.Common.{take}
use Rattle.std.specs.List.{AllByRecursion}
use Rattle.saw_tpside.specs.WrittenTexts.{HasText}
use Rattle.saw_tpside.proofs.texts.are_addresses.Given as goal

abbrev pub invariant-loop-entry : goal.invariant-loop-entry
invariant-loop-entry l = AllByRecursion HasText (take l.entry-index l.entries)
