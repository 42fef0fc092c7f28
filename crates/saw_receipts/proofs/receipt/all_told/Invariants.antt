use Rattle.std.proofs.Common.{◌≡◌, map, take}
use Rattle.saw_receipts.specs.Receipts.{told}
use Rattle.saw_receipts.proofs.receipt.all_told.Given as goal

abbrev pub invariant-loop-change : goal.invariant-loop-change
invariant-loop-change l = l.made ≡ map told (take l.change-index l.changes)
