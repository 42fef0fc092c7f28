use Rattle.std.proofs.Common.{take}
use Rattle.std.specs.List.{AllByRecursion}
use Rattle.saw_messages.specs.ReadBack.{IsText}
use Rattle.saw_generate.proofs.signed.are_texts.Given as goal

-- those that were looked at are texts
abbrev pub invariant-loop-text : goal.invariant-loop-text
invariant-loop-text l = AllByRecursion IsText (take l.text-index l.texts)
