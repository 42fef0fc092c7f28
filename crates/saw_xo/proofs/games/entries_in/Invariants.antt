use Rattle.std.proofs.Common.{◌≡◌, map, take, Some}
use Rattle.saw_xo.specs.Games.{entry_in}
use Rattle.saw_xo.proofs.games.entries_in.Given as goal

abbrev pub invariant-loop-part : goal.invariant-loop-part
invariant-loop-part l = map (λ entry. Some entry) l.entries.items ≡ map (λ part. entry_in part.now) (take l.part-index l.part-items)
