use Rattle.std.proofs.Common.{◌≡◌, ◌<◌, ◌≤◌, ℕ, get_or}
use Rattle.saw_messages.specs.declared.outcome.Change.{Change}
use Rattle.saw_runs.specs.Places.{byte_of}
use Rattle.saw_runs.proofs.changing.group_end.Given as goal

-- all so far have the byte of the first
abbrev pub invariant-loop-end : goal.invariant-loop-end
invariant-loop-end l = (k : ℕ) (d : Change) → l.at ≤ k → k < l.end → byte_of l.depth (get_or l.changes k d) ≡ byte_of l.depth (get_or l.changes l.at d)
