use Rattle.std.proofs.Common.{◌≡◌, ◌+◌, ◌++◌, length}
use Rattle.saw_publish.specs.Fates.{losses_from}
use Rattle.saw_publish.proofs.fates.losses.Given as goal

abbrev pub invariant-loop-place : goal.invariant-loop-place
invariant-loop-place l = record {
  whole : l.losses ++ losses_from l.place-iterator.count l.place-iterator.iter.rest.items ≡ losses_from 0 l.fn.fates;
  counted : l.place-iterator.count + length l.place-iterator.iter.rest.items ≡ length l.fn.fates;
}
