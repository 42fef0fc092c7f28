use Rattle.std.proofs.Common.{ap, ◌∙◌}
use Rattle.std.specs.List.{list_any}
use Rattle.std.specs.Ordering.{nat_cmp}
use Rattle.std.specs.Cmp.Lexicographic.{slice_cmp}
use Rattle.std.specs.BTreeSet.{contains}
use Rattle.saw_crew.proofs.Depending.{held-names}
use Rattle.saw_crew.proofs.batch.names_one.Goals as goal

pub returns : goal.returns
returns c = λ others holds.
    rw (← c.tx.view_is) (c.holds_one.ensures ∙ ap (λ ids. list_any (λ id. contains (slice_cmp nat_cmp) c.args.failed.now id) ids) c.as_slice.ensures
    ∙ held-names c.args.failed.now others holds c.tx.inside.header.dependencies)
