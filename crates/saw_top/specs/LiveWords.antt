-- The words of `apply`, beside readers or without them.
use Rattle.std.specs.Prelude.{ℕ, Bool, true, false, List, [], ◌∷◌, Option, None, option_map}
use Rattle.std.specs.Option.{option_and_then}
use Rattle.saw_words.specs.Given.{Given, given_in}
use Rattle.saw_top.specs.Command.{Values, Assignment, apply_by, of_names}
use Rattle.saw_top.specs.Numbers.{required}
use Rattle.saw_top.specs.Table.{kind_of, live, live_options, options_of, readers}
use Rattle.saw_top.specs.declared.door.Door.{Door}
use Rattle.saw_top.specs.declared.table.Kind.{Kind}
use Rattle.saw_top.specs.declared.table.Kind.TheVariants as kinds

-- a port and a number of readers: both are given
abbrev pub door_in : Option (List ℕ) → Option (List ℕ) → Option Door
door_in port count =
    option_and_then (λ at. option_map (λ n. record { port = at; readers = n }) (required 1 64 count)) (required 1 65535 port)

abbrev pub door_by : Values → Option Door
door_by value = door_in (value live) (value readers)

-- what is asked: that of `apply` by the other options
abbrev pub live_by : Values → Option Assignment
live_by value = option_and_then (λ door. apply_by value) (door_by value)

-- the options of `apply`, beside readers or without them, and what they ask
abbrev pub options_for : Bool → List (List ℕ)
options_for true = live_options
options_for false = options_of kinds.Apply

abbrev pub plan_for : Bool → Values → Option Assignment
plan_for true = live_by
plan_for false = apply_by

-- what is made of the options of `apply`, and of no other command's
abbrev pub of_apply : {A : Type 0} → (List Given → Option A) → Kind → List Given → Option A
of_apply made kinds.Apply given = made given
of_apply made kind given = None

abbrev pub of_words : {A : Type 0} → List (List ℕ) → (Values → Option A) → List (List ℕ) → Option A
of_words names made [] = None
of_words names made (word ∷ words) =
    option_and_then (λ kind. option_and_then (of_apply (of_names names made) kind) (given_in None words)) (kind_of word)

-- what the words of `apply` ask for, with these options; others ask for nothing
abbrev pub wish_of : Bool → List (List ℕ) → Option Assignment
wish_of beside words = of_words (options_for beside) (plan_for beside) words

abbrev pub apply_of : List (List ℕ) → Option Assignment
apply_of words = wish_of false words

abbrev pub live_of : List (List ℕ) → Option Assignment
live_of words = wish_of true words

-- the door of options that ask for something
abbrev pub opened_door : Values → Option Door
opened_door value = option_and_then (λ wish. door_by value) (live_by value)

-- where readers connect: words that ask for nothing open nothing
abbrev pub door_of : List (List ℕ) → Option Door
door_of words = of_words live_options opened_door words
