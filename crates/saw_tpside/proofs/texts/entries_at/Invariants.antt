use Rattle.std.proofs.Common.{◌≡◌, take, map}
use Rattle.saw_link.specs.Hearing.{entry_of}
use Rattle.saw_tpside.specs.ProcessorFrames.{entry_at}
use Rattle.saw_tpside.proofs.texts.entries_at.Given as goal

abbrev pub invariant-loop-entry : goal.invariant-loop-entry
invariant-loop-entry l = (l.made ≡ map entry_at (take l.entry-index l.entries)) × (map entry_of l.made ≡ take l.entry-index l.entries)
