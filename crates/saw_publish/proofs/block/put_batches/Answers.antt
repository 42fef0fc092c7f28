use Rattle.std.proofs.lemmas.Slice.Zip.{either_empty_from_Zip}
use Rattle.saw_publish.proofs.Written.{bytes_ended}
use Rattle.saw_publish.proofs.block.put_batches.Goals as goal

pub returns : goal.returns
returns c =
    bytes_ended c.loop-fate.out.items _ _ _ (either_empty_from_Zip c.loop-fate.fate-iterator c.next.new.self c.next.result c.in-None.is c.next.ensures.steps)
    c.loop-fate.invariant
