use Rattle.std.proofs.Common.{◌++◌, ◌∙◌, ap, map}
use Rattle.saw_runs.specs.Below.{covered_by, listed_as, read_under}
use Rattle.saw_runs.specs.Readings.{read_at}
use Rattle.saw_runs.proofs.OneMap.{read_all-root}
use Rattle.saw_runs.proofs.listing.list_below.Goals as goal

pub returns : goal.returns
returns g c = λ hash m is.
    let read = read_at c.args.tables.now in
    c.in_ok-gather.ensures ∙ ap (λ items. map listed_as items ++ read_under read c.place_below.result) c.new-listed.ensures.items ∙ c.place_below.ensures.same
    ∙ ap (covered_by c.args.prefix.now) (read_all-root hash read m c.args.root.now is)
