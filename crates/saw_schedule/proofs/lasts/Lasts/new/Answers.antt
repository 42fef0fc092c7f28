use Rattle.std.proofs.Common.{refl}
use Rattle.std.specs.Cmp.Lexicographic.{slice_cmp}
use Rattle.std.specs.FinMap as finite
use Rattle.std.specs.Ordering.{nat_cmp}
use Rattle.saw_schedule.proofs.lasts.Lasts.new.Goals as goal

pub returns-clause-nothing : goal.returns-clause-nothing
returns-clause-nothing c = record {
  none = λ at. rw c.new.ensures.empty refl;
  no_layers = λ at. rw c.new-2.ensures (finite.get-empty (slice_cmp nat_cmp) at);
  long = c.in_ok-new.ensures.0;
  idle = c.in_ok-new.ensures.1;
  place = refl;
  change = refl;
}
