use Rattle.std.proofs.Common.{◌≡◌, drop}
use Rattle.std.specs.FinMap as finite
use Rattle.saw_context.specs.Views.{layers_of}
use Rattle.saw_schedule.specs.Agreement.{first_unseen}
use Rattle.saw_schedule.proofs.agreement.first_unseen.Given as goal

abbrev pub invariant-loop-read : goal.invariant-loop-read
invariant-loop-read l =
    first_unseen (λ at. finite.get (layers_of l.view) at) l.reads ≡ first_unseen (λ at. finite.get (layers_of l.view) at) (drop l.read-index l.reads)
