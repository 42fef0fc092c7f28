-- Changes that can be taken back.
use Rattle.std.specs.Prelude.{◌≡◌, ℕ, List, [], ◌∷◌, Option}
use Rattle.std.specs.FinMap as finite
use Rattle.saw_context.specs.Conversation.{Overlay}
use Rattle.saw_context.specs.declared.undo.Undo.{Undo}

-- the second came from the first by a change at the address, before which that was there
abbrev pub IsOneStep : Overlay → Undo → Overlay → Type 0
IsOneStep own undo changed = (value : Option (List ℕ)) × (undo.before ≡ finite.get own undo.at) × (changed ≡ finite.insert own undo.at value)

-- the second came from the first by these changes, one after another
abbrev pub CameBy : Overlay → List Undo → Overlay → Type 0
CameBy own [] changed = own ≡ changed
CameBy own (undo ∷ undos) changed = (next : Overlay) × IsOneStep own undo next × CameBy next undos changed
