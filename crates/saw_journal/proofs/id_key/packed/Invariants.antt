use Rattle.std.proofs.Common.{◌≡◌, length}
use Rattle.saw_journal.proofs.Packing.{ArePacked}
use Rattle.saw_journal.proofs.id_key.packed.Given as goal

abbrev pub invariant-loop-i : goal.invariant-loop-i
invariant-loop-i l = (length l.bytes ≡ 64) × ArePacked l.digits l.bytes l.i
