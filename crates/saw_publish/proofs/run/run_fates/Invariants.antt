use Rattle.std.proofs.Common.{◌≡◌, map, take}
use Rattle.saw_publish.specs.Drafts.{run_fate}
use Rattle.saw_publish.proofs.run.run_fates.Given as goal

abbrev pub invariant-loop-done : goal.invariant-loop-done
invariant-loop-done l = l.fates ≡ map run_fate (take l.done-index l.results)
