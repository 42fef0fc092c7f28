use Rattle.std.proofs.Common.{take}
use Rattle.saw_schedule.specs.Overlaps.{AreBytesOf}
use Rattle.saw_schedule.proofs.edges.prefixes_of.Given as goal

abbrev pub invariant-loop-text : goal.invariant-loop-text
invariant-loop-text l = AreBytesOf (take l.text-index l.texts) l.prefixes.items
