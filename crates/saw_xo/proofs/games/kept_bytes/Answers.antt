use Rattle.std.proofs.Common.{map, sym, ap, ◌∙◌}
use Rattle.std.specs.List.{join_with_byte}
use Rattle.saw_address.proofs.Finite.{entries-map_of}
use Rattle.saw_xo.specs.Games.{entry_text, kept_bytes}
use Rattle.saw_xo.proofs.Joins.{all_joined, all_entries_joined}
use Rattle.saw_xo.proofs.games.kept_bytes.Goals as goal

pub returns : goal.returns
unfolding kept_bytes
returns c =
    let l = c.loop-name in
    let gives = c.into_iter-name-iterator.ensures.into_iter_gives in
    let entries = c.args.games.now.entries in
    c.from_vec.ensures
    ∙ ap (λ rest. all_joined l.out.items (map entry_text rest)) (sym c.in-None.ensures.steps.0)
    ∙ l.invariant
    ∙ all_entries_joined entries
    ∙ ap (λ es. join_with_byte 124 (map entry_text es)) (sym (entries-map_of entries gives.5))
