-- What is to be opened before a run.
use Rattle.std.specs.Prelude.{◌≤◌, ℕ, List, [], ◌∷◌, Option, Some, None, option_map, unwrap_or}
use Rattle.std.specs.Option.{option_and_then}
use Rattle.saw_words.specs.Given.{Given, given_in}
use Rattle.saw_top.specs.Command.{Asked, Check, Generate, Judge, Values, asked_by, of_names}
use Rattle.saw_top.specs.Listening.{listening_in}
use Rattle.saw_top.specs.LiveWords.{door_of}
use Rattle.saw_top.specs.Numbers.{required}
use Rattle.saw_top.specs.Table.{connect, kind_of, listen, options_of, remotes}
use Rattle.saw_top.specs.declared.door.Door.{Door}
use Rattle.saw_top.specs.declared.listening.Listening.{Listening}
use Rattle.saw_top.specs.declared.opening.Wish.{Wish}
use Rattle.saw_top.specs.declared.opening.Wish.TheVariants.{Plain, Listen, Live, Connect}
use Rattle.saw_top.specs.declared.table.Kind.{Kind}
use Rattle.saw_top.specs.declared.table.Kind.TheVariants as kinds

abbrev pub listening_by : Values → Option (Option Listening)
listening_by value = listening_in (value listen) (value remotes)

abbrev pub by_listening : Option (Option Listening) → Wish
by_listening None = Plain
by_listening (Some None) = Plain
by_listening (Some (Some at)) = Listen at.port at.remotes

abbrev pub by_port : Option ℕ → Wish
by_port None = Plain
by_port (Some port) = Connect port

-- by the options of a processor
abbrev pub connected_by : Values → Wish
connected_by value = by_port (required 1 65535 (value connect))

-- by the options of a command on blocks
abbrev pub listened_by : Option Asked → Values → Wish
listened_by None value = Plain
listened_by (Some (Judge wish)) value = by_listening (listening_by value)
listened_by (Some (Generate wish)) value = Plain
listened_by (Some (Check claim)) value = Plain

abbrev pub opened_by : Kind → Values → Wish
opened_by kinds.Tp value = connected_by value
opened_by kind value = listened_by (asked_by kind value) value

abbrev pub opened_with : Kind → Option (List Given) → Wish
opened_with kind given = unwrap_or (option_and_then (of_names (options_of kind) (λ value. Some (opened_by kind value))) given) Plain

-- what the words ask to open where they name no readers; where they are invalid nothing is
abbrev pub opened_alone : List (List ℕ) → Wish
opened_alone [] = Plain
opened_alone (word ∷ words) = unwrap_or (option_map (λ kind. opened_with kind (given_in None words)) (kind_of word)) Plain

-- a door for readers, or what is opened without one
abbrev pub opened_at : Option Door → Wish → Wish
opened_at None other = other
opened_at (Some door) other = Live door.port door.readers

-- what the words ask to open
abbrev pub opened_of : List (List ℕ) → Wish
opened_of words = opened_at (door_of words) (opened_alone words)

-- at most so many readers connect
abbrev pub HasFewReaders : Wish → Type 0
HasFewReaders (Live port readers) = readers ≤ 64
HasFewReaders other = Unit {0}
