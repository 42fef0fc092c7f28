use Rattle.std.proofs.Common.{◌≡◌, take}
use Rattle.saw_link.specs.SentFrames.{entries_of}
use Rattle.saw_link.proofs.written.entries_of.Given as goal

abbrev pub invariant-loop-i : goal.invariant-loop-i
invariant-loop-i l = l.made ≡ take l.i (entries_of l.texts l.bodies)
