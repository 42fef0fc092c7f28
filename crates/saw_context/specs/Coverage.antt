-- Whether an outcome changes only what texts cover.
use Rattle.std.specs.Prelude.{ℕ, Bool, true, List}
use Rattle.std.specs.List.{list_all}
use Rattle.saw_messages.specs.declared.outcome.Outcome.{Outcome}
use Rattle.saw_messages.specs.declared.outcome.Outcome.TheVariants as outcomes
use Rattle.saw_context.specs.Conversation.{are_covering}

abbrev pub are_changes_covered : List (List ℕ) → Outcome → Bool
are_changes_covered texts (outcomes.Ok changes events) = list_all (λ change. are_covering texts change.address) changes
are_changes_covered texts (outcomes.Invalid reason) = true
