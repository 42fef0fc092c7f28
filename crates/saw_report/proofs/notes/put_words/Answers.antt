use Rattle.std.proofs.Common.{append_assoc}
use Rattle.saw_report.proofs.notes.put_words.Goals as goal

pub returns-in-Truncated-clause-items : goal.returns-in-Truncated-clause-items
returns-in-Truncated-clause-items c =
    rw (c.in-Truncated.is, c.put_spaced-in-Truncated.ensures.items, c.put_spaced.ensures.items, c.put-in-Truncated.ensures.items) (simp append_assoc)
