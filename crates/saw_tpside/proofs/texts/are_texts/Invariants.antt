use Rattle.std.proofs.Common.{take}
use Rattle.std.specs.List.{AllByRecursion}
use Rattle.saw_messages.specs.ReadBack.{IsText}
use Rattle.saw_tpside.proofs.texts.are_texts.Given as goal

abbrev pub invariant-loop-text : goal.invariant-loop-text
invariant-loop-text l = AllByRecursion IsText (take l.text-index l.texts)
