-- What is true of the options of a command.
use Rattle.std.specs.Prelude.{◌≡◌, List, ◌∷◌, ◌++◌}
use Rattle.saw_words.specs.Given.{Given}
use Rattle.saw_top.specs.Command.{asked_with}
use Rattle.saw_top.specs.declared.table.Kind.{Kind}

-- the order of two options does not show
abbrev pub OrderOfOptionsDoesNotShow : Type 0
OrderOfOptionsDoesNotShow = (kind : Kind) (before after : List Given) (one other : Given)
    → asked_with kind (before ++ one ∷ other ∷ after) ≡ asked_with kind (before ++ other ∷ one ∷ after)
