-- Turns that differ only in the indices of places that are not declared.
use Rattle.std.specs.Prelude.{◌≡◌, List, [], ◌∷◌}
use Rattle.saw_messages.specs.declared.talk.Reply.{Reply}
use Rattle.saw_messages.specs.declared.talk.Reply.TheVariants.{Entries, Done, Unauthorized}
use Rattle.saw_messages.specs.declared.talk.Turn.{Turn}

-- the reply with no index
abbrev pub with_no_index : Reply → Reply
with_no_index (Entries bodies) = Entries bodies
with_no_index Done = Done
with_no_index (Unauthorized index) = Unauthorized 0

abbrev pub IsAlike : Turn → Turn → Type 0
IsAlike turn other = (turn.action ≡ other.action) × (with_no_index turn.reply ≡ with_no_index other.reply)

abbrev pub AreAlike : List Turn → List Turn → Type 0
AreAlike [] [] = Unit {0}
AreAlike [] (other ∷ others) = ⊥
AreAlike (turn ∷ turns) [] = ⊥
AreAlike (turn ∷ turns) (other ∷ others) = IsAlike turn other × AreAlike turns others
