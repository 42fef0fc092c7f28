use Rattle.std.proofs.Common.{rules, ◌≡◌, ◌+◌, true, length, slice_index, ap, sym, ◌∙◌}
use Rattle.crossbeam_utils.specs.Seq.{cell_view}
use Rattle.saw_live.proofs.HeadLists.{adds, looks}
use Rattle.saw_live.proofs.live.Live.show.Goals as goal

pub load_as-seen-requires : goal.load_as-seen-requires
load_as-seen-requires g c = (search rules, (search rules, (search rules, looks _ _)))

pub swap_as-requires : goal.swap_as-requires
swap_as-requires g c =
    let looked = c.load_as-seen.ensures.rule in
    let first : (cell_view c.load_as-seen.new.pass).publishes ≡ true = looked.1 ∙ c.requires.first in
    let count : slice_index c.cell_words-words.result 0 ≡ length (cell_view c.load_as-seen.new.pass).seen + 1 =
    c.cell_words-words.ensures.count ∙ ap (λ n. n + 1) (sym looked.2.0) in
    (search rules, (search rules, (search rules, adds _ _ c.cell_words-words.result first count)))
