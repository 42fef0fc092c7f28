use Rattle.std.proofs.Common.{◌≡◌, drop}
use Rattle.saw_schedule.specs.BatchResults.{first_failure}
use Rattle.saw_journal.proofs.results.test_results.Given as goal

abbrev pub invariant-loop-k : goal.invariant-loop-k
invariant-loop-k l = first_failure 0 l.results.batches ≡ first_failure l.k (drop l.k l.results.batches)
