use Rattle.std.proofs.Common.{◌≡◌, ℕ, List, length, unwrap_or}
use Rattle.saw_context.specs.Runs.{mark_in, runs_of, shown_in}
use Rattle.saw_context.proofs.layers.gathered.Given as goal

abbrev pub invariant-loop-rest : goal.invariant-loop-rest
invariant-loop-rest l = (q : List ℕ)
    → unwrap_or (mark_in l.run q) (shown_in (runs_of l.rest) q) ≡ unwrap_or (mark_in l.fn.newest q) (shown_in (runs_of l.fn.runs) q)

abbrev pub decreases-loop-rest : goal.decreases-loop-rest
decreases-loop-rest l = length l.rest
