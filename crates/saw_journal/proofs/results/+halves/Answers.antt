use Rattle.std.proofs.Common.{◌++◌, sym, ap₂, ◌∙◌}
use Rattle.saw_journal.proofs.Ids.{records_joined}
use Rattle.saw_journal.proofs.results.+halves.Goals as goal

pub returns : goal.returns
returns g t c =
    let near = rw c.in_ok-made.was at c.join-made.ensures.first in
    let far = rw c.in_ok-more.was at c.join-made.ensures.second in
    rw (c.split_at.ensures.by_index.0, c.split_at-2.ensures.by_index.0, c.in_ok-append.ensures.items) (ap₂ (λ some others. some ++ others) near far
    ∙ sym (records_joined c.split_at.result.0.now c.split_at.result.1.now c.split_at-2.result.0.now c.split_at-2.result.1.now
    (c.split_at.ensures.front_len ∙ sym c.split_at-2.ensures.front_len)))
