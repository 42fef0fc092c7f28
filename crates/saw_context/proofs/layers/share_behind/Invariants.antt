use Rattle.std.proofs.Common.{◌≡◌, ◌++◌, take}
use Rattle.saw_context.specs.Runs.{runs_of}
use Rattle.saw_context.proofs.layers.share_behind.Given as goal

abbrev pub invariant-loop-other : goal.invariant-loop-other
invariant-loop-other l = runs_of l.runs ≡ runs_of l.fn.runs ++ runs_of (take l.other-index l.others)
