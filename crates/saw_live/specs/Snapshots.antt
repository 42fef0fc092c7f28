-- What is on top of layers after changes.
use Rattle.std.specs.Prelude.{ℕ, List, Option, Some, None}
use Rattle.saw_messages.specs.declared.outcome.Change.{Change}
use Rattle.saw_context.specs.declared.view.ViewEntry.{ViewEntry}

-- what stands for a value in layers; for none nothing does
abbrev pub entry_for : Option (List ℕ) → Option ViewEntry
entry_for (Some value) = Some (record { index = 0; value = Some value })
entry_for None = None

-- the address of a change, with what is to stand there
abbrev pub mark_for : Change → List ℕ × Option ViewEntry
mark_for change = (change.address, entry_for change.value)
