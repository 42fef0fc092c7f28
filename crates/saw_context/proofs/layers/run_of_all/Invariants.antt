use Rattle.std.proofs.Common.{◌≡◌, ℕ, List, bytes_eq}
use Rattle.std.specs.Map.{update_all}
use Rattle.saw_context.specs.Runs.{last_of, mark_in}
use Rattle.saw_context.proofs.layers.run_of_all.Given as goal

abbrev pub invariant-loop-mark : goal.invariant-loop-mark
invariant-loop-mark l = (q : List ℕ) → update_all bytes_eq (mark_in l.run) l.mark-iterator.rest.items q ≡ last_of l.initial.mark-iterator.rest.items q
