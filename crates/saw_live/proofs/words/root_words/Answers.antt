use Rattle.std.proofs.Common.{ap, length, ◌∙◌}
use Rattle.saw_live.proofs.Spelled.{no_words, word_more}
use Rattle.saw_live.proofs.words.root_words.Goals as goal

pub returns : goal.returns
returns c =
    let xs = c.as_slice-bytes.result.now in
    let size = ap length c.as_slice-bytes.ensures.bytes ∙ c.as_slice-bytes.ensures.is.size in
    (word_more 0 xs c.word_at.ensures (word_more 8 xs c.word_at-2.ensures (word_more 16 xs c.word_at-3.ensures
    (word_more 24 xs c.word_at-4.ensures (no_words 32 xs size))))).is ∙ c.as_slice-bytes.ensures.bytes
