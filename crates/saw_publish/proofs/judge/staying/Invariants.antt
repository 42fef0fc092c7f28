use Rattle.std.proofs.Common.{◌≡◌, ◌++◌}
use Rattle.std.specs.Iterator.Adapters.{zip_first, zip_second}
use Rattle.std.specs.Slice.Iter.{iter_rest}
use Rattle.std.specs.Vec.Iter.{into_iter_items}
use Rattle.saw_publish.specs.Fates.{still_in}
use Rattle.saw_publish.proofs.judge.staying.Given as goal

abbrev pub invariant-loop-fate : goal.invariant-loop-fate
invariant-loop-fate g l =
    l.kept ++ still_in (iter_rest (zip_first l.fate-iterator)) (into_iter_items (zip_second l.fate-iterator))
    ≡ still_in l.fn.fates l.fn.others
