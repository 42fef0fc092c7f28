use Rattle.std.proofs.Common.{◌≡◌, take, map}
use Rattle.saw_link.specs.Hearing.{place_of}
use Rattle.saw_tpside.specs.ProcessorFrames.{text_at}
use Rattle.saw_tpside.proofs.texts.texts_at.Given as goal

abbrev pub invariant-loop-place : goal.invariant-loop-place
invariant-loop-place l = (l.made ≡ map text_at (take l.place-index l.places)) × (map place_of l.made ≡ take l.place-index l.places)
