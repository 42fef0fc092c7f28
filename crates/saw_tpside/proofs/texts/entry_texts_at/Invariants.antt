use Rattle.std.proofs.Common.{◌≡◌, take, map}
use Rattle.saw_tpside.specs.ProcessorFrames.{text_at}
use Rattle.saw_tpside.proofs.texts.entry_texts_at.Given as goal

abbrev pub invariant-loop-entry : goal.invariant-loop-entry
invariant-loop-entry l = l.made ≡ map (λ entry. text_at entry.place) (take l.entry-index l.entries)
