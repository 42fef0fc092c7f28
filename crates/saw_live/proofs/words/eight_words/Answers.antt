use Rattle.saw_live.proofs.Spelled.{no_words, word_more}
use Rattle.saw_live.proofs.words.eight_words.Goals as goal

pub returns : goal.returns
returns c =
    let xs = c.args.bytes.now in
    (word_more 0 xs c.word_at.ensures (word_more 8 xs c.word_at-2.ensures (word_more 16 xs c.word_at-3.ensures
    (word_more 24 xs c.word_at-4.ensures (word_more 32 xs c.word_at-5.ensures (word_more 40 xs c.word_at-6.ensures
    (word_more 48 xs c.word_at-7.ensures (word_more 56 xs c.word_at-8.ensures (no_words 64 xs c.requires))))))))).is
