use Rattle.std.proofs.Common.{take}
use Rattle.std.specs.List.{AllByRecursion}
use Rattle.saw_tpside.specs.WrittenTexts.{HasTexts}
use Rattle.saw_tpside.proofs.texts.are_attributes.Given as goal

abbrev pub invariant-loop-attribute : goal.invariant-loop-attribute
invariant-loop-attribute l = AllByRecursion HasTexts (take l.attribute-index l.attributes)
