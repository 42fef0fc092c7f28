-- Where external processors connect.
use Rattle.std.specs.Prelude.{ℕ, List, Option, Some, None, option_map}
use Rattle.std.specs.Option.{option_and_then}
use Rattle.saw_words.specs.Numbers.{number_in}
use Rattle.saw_top.specs.declared.listening.Listening.{Listening}

abbrev pub at_port : ℕ → ℕ → Listening
at_port port remotes = record { port = port; remotes = remotes }

-- a port from 1 to 65,535, and 1 to 64 processors that connect to it: both are given, or neither
abbrev pub listening_in : Option (List ℕ) → Option (List ℕ) → Option (Option Listening)
listening_in None None = Some None
listening_in (Some port) (Some count) =
    option_and_then (λ p. option_map (λ n. Some (at_port p n)) (number_in 1 64 count)) (number_in 1 65535 port)
listening_in _ _ = None
