-- The program's map of games, as games.
use Rattle.std.specs.Prelude.{ℕ, List, Result}
use Rattle.std.specs.Result.{result_map_both}
use Rattle.std.specs.BTreeMap.{BTreeMap}
use Rattle.std.specs.FinMap as finite
use Rattle.saw_xo.specs.Games.{Games}
use Rattle.saw_xo.specs.declared.game.Game.{Game}

-- the games of the map's entries
abbrev pub seen : BTreeMap (List ℕ) Game → Games
seen games = finite.from_entries games.entries

-- the map, or the number of the check that failed
abbrev pub seen_or_number : Result (BTreeMap (List ℕ) Game) ℕ → Result Games ℕ
seen_or_number made = result_map_both seen (λ number. number) made
