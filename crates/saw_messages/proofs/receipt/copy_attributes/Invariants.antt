use Rattle.std.proofs.Common.{◌≡◌, take}
use Rattle.saw_messages.proofs.receipt.copy_attributes.Given as goal

abbrev pub invariant-loop-attribute : goal.invariant-loop-attribute
invariant-loop-attribute l = l.made ≡ take l.attribute-index l.attributes
