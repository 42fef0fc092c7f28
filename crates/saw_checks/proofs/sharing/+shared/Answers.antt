use Rattle.saw_checks.proofs.JudgedLists.{judged_joined}
use Rattle.saw_checks.proofs.sharing.+shared.Goals as goal

pub returns : goal.returns
returns g t c =
    rw (c.split_at.ensures.by_index.0, c.in_ok-append.ensures.items) (judged_joined (g.V.Verifier.accepts c.args.verifier.now) c.split_at.result.0.now
    c.split_at.result.1.now c.in_ok-judged.judged.items c.in_ok-others.others.items
    (rw c.in_ok-judged.was at c.join-judged.ensures.first)
    (rw c.in_ok-others.was at c.join-judged.ensures.second))
