use Rattle.std.proofs.lemmas.Slice.Zip.{either_empty_from_Zip}
use Rattle.saw_journal.proofs.Ids.{ended}
use Rattle.saw_journal.proofs.results.records_here.Goals as goal

pub returns : goal.returns
returns c =
    ended c.loop-batch.made.items _ _ _ (either_empty_from_Zip c.loop-batch.batch-iterator c.next.new.self c.next.result c.in-None.is c.next.ensures.steps)
    c.loop-batch.invariant
