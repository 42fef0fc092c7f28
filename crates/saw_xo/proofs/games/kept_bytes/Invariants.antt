use Rattle.std.proofs.Common.{◌≡◌, [], map}
use Rattle.saw_xo.specs.Games.{entry_text}
use Rattle.saw_xo.proofs.Joins.{all_joined}
use Rattle.saw_xo.proofs.games.kept_bytes.Given as goal

abbrev pub invariant-loop-name : goal.invariant-loop-name
invariant-loop-name l = all_joined l.out.items (map entry_text l.name-iterator) ≡ all_joined [] (map entry_text l.games.entries)
