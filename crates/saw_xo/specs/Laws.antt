-- What is kept is read back.
use Rattle.std.specs.Prelude.{◌≡◌, ◌<◌, ℕ, true, false, ◌==◌, List, length, Some}
use Rattle.std.specs.FinMap as finite
use Rattle.std.specs.List.{list_any, AllByRecursion}
use Rattle.std.specs.Str.{is_utf8}
use Rattle.saw_xo.specs.Games.{Games, games_of, kept_bytes}
use Rattle.saw_xo.specs.declared.game.Game.{Game}

-- text that may stand in an entry: without `,` and `|`
pub record IsPart (text : List ℕ) : Type 0 where
  pub utf8 : is_utf8 text ≡ true
  pub commas : list_any (λ b. b == 44) text ≡ false
  pub bars : list_any (λ b. b == 124) text ≡ false

-- a name that is not empty, nine marks and two keys
pub record IsEntry (entry : List ℕ × Game) : Type 0 where
  pub name : IsPart entry.0
  pub named : 0 < length entry.0
  pub full : length entry.1.board ≡ 9
  pub first_key : IsPart entry.1.first_key
  pub second_key : IsPart entry.1.second_key

-- the games that are kept are those that are read
abbrev pub KeptIsRead : Type 0
KeptIsRead = (games : Games) → AllByRecursion IsEntry (finite.entries games) → games_of (kept_bytes games) ≡ Some games
