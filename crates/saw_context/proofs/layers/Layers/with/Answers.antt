use Rattle.std.proofs.Common.{cond, bytes_eq, ap, ◌∙◌}
use Rattle.saw_context.specs.Runs.{runs_of, shown_in}
use Rattle.saw_context.proofs.Runs.{get-layers_in, shown-one, shown_in-inside}
use Rattle.saw_context.proofs.layers.Layers.with.Goals as goal

pub returns : goal.returns
returns c = λ q.
    let below = shown_in (runs_of c.as_slice.result.now) q in
    get-layers_in (runs_of c.in_ok-gathered.field-0) q
    ∙ c.in_ok-gathered.ensures q
    ∙ shown-one c.in_ok-newest.newest c.args.at c.args.entry below q (c.in_ok-newest.ensures q)
    ∙ ap (cond (bytes_eq c.args.at q) c.args.entry)
    (ap (λ runs. shown_in (runs_of runs) q) c.as_slice.ensures ∙ shown_in-inside (runs_of c.self.inside.runs) c.args.self.now c.self.view_is q)
