use Rattle.std.proofs.Common.{◌≡◌, ◌++◌}
use Rattle.saw_publish.specs.Fates.{further}
use Rattle.saw_publish.proofs.fates.merged.Given as goal

abbrev pub invariant-loop-fate : goal.invariant-loop-fate
invariant-loop-fate l = l.all ++ further l.fate-iterator.rest.items l.waiting.rest.items ≡ further l.fn.fates l.fn.more
