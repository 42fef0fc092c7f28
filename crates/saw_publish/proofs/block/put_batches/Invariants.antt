use Rattle.std.proofs.Common.{◌≡◌, ◌++◌}
use Rattle.std.specs.Iterator.Adapters.{zip_first, zip_second}
use Rattle.std.specs.Slice.Iter.{iter_rest}
use Rattle.saw_wire.specs.Writing.{spelled}
use Rattle.saw_wire.specs.Written.{texts_pieces}
use Rattle.saw_publish.specs.Fates.{still_in}
use Rattle.saw_publish.proofs.block.put_batches.Given as goal

abbrev pub invariant-loop-fate : goal.invariant-loop-fate
invariant-loop-fate l =
    l.out.items ++ spelled (texts_pieces 3 (still_in (iter_rest (zip_first l.fate-iterator)) (iter_rest (zip_second l.fate-iterator))))
    ≡ l.fn.out.items ++ spelled (texts_pieces 3 (still_in l.fates l.encodings))
