use Rattle.std.proofs.Common.{◌≡◌, ◌+◌, ◌-◌, slice_index, sym, ap, ◌∙◌, arith, rules}
use Rattle.saw_address.specs.Maps.{no_entries}
use Rattle.saw_context.specs.Views.{over}
use Rattle.saw_live.proofs.HeadLists.{told_last}
use Rattle.saw_live.specs.Words.{bytes_of}
use Rattle.saw_live.proofs.ask.told.Goals as goal

pub returns-then-eq : goal.returns-then-eq
returns-then-eq g c = λ seen ends.
    let words = c.args.words.now in
    let some : slice_index words 0 ≡ (slice_index words 0 - 1) + 1 = omega (arith, c.if-words-eq0.false) in
    let same : c.root_words.result ≡ c.head_of-head.result.root = search rules in
    let root = ap bytes_of (sym same) ∙ c.root_words.ensures in
    let last = told_last seen words _ c.head_of-head.result c.in_ok-id_of.field-0 c.args.kept.now.root ends some c.head_of-head.ensures c.in_ok-id_of.ensures root in (
      last.0,
      last.1,
      (over no_entries c.args.kept.now.layers, c.args.kept.now.whole, c.args.kept.now.rooted, c.in_ok-value.ensures),
    )
