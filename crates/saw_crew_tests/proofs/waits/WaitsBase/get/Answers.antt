use Rattle.std.proofs.Common.{sym}
use Rattle.std.specs.Ordering.{nat_cmp}
use Rattle.std.specs.Cmp.Lexicographic.{slice_cmp}
use Rattle.std.specs.FinMap as finite
use Rattle.saw_crew_tests.proofs.waits.WaitsBase.get.Goals as goal

-- src/waits.rt: nothing is kept anywhere
pub returns : goal.returns
returns c = sym (finite.get-empty (slice_cmp nat_cmp) c.args.at.now)
