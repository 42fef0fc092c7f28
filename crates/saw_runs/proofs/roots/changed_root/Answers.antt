use Rattle.std.proofs.Common.{sym, subst}
use Rattle.std.specs.Prelude.{IfSome}
use Rattle.saw_runs.specs.Idle.{AreLeftOf, StandsFor}
use Rattle.saw_runs.specs.Readings.{read_at}
use Rattle.saw_runs.proofs.Skipping.{root_stands}
use Rattle.saw_runs.proofs.roots.changed_root.Goals as goal

pub returns-in-Some-clause-changes : goal.returns-in-Some-clause-changes
returns-in-Some-clause-changes g c =
    let left = subst (λ o. IfSome o (λ left. AreLeftOf (read_at c.args.tables.now) c.args.root.now left.items c.args.changes.now)) c.in-Some.is
    c.in_ok-left.ensures.left in
    root_stands (read_at c.args.tables.now) c.args.root.now g.H.NodeHasher.hash_of c.args.empty.now c.as_slice-left.result.now c.args.changes.now
    c.in_ok-answer.answer c.args.news.now.items c.root_after.new.news.items
    (subst (λ xs. StandsFor (read_at c.args.tables.now) c.args.root.now xs c.args.changes.now) (sym c.as_slice-left.ensures.value) left.stands)
    c.in_ok-answer.ensures
