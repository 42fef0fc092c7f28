use Rattle.std.specs.FinMap as finite
use Rattle.std.specs.Ordering.{nat_cmp}
use Rattle.std.specs.Cmp.Lexicographic.{slice_cmp}
use Rattle.saw_schedule.proofs.view.nothing.Goals as goal

pub returns-clause-layers : goal.returns-clause-layers
returns-clause-layers c = λ at. rw c.new.ensures (finite.get-empty (slice_cmp nat_cmp) at)
