use Rattle.std.proofs.Common.{◌≡◌, drop}
use Rattle.saw_context.specs.Runs.{runs_of, shown_in}
use Rattle.saw_context.proofs.layers.shown_in.Given as goal

abbrev pub invariant-loop-run : goal.invariant-loop-run
invariant-loop-run l = shown_in (runs_of (drop l.run-index l.runs)) l.at ≡ shown_in (runs_of l.runs) l.at
