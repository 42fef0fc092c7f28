use Rattle.std.proofs.Common.{unwrap_or, ap, ◌∙◌}
use Rattle.saw_context.specs.Runs.{runs_of, shown_in}
use Rattle.saw_context.proofs.Runs.{get-layers_in, shown_in-inside}
use Rattle.saw_context.proofs.layers.Layers.with_all.Goals as goal

pub returns : goal.returns
returns c = λ q.
    get-layers_in (runs_of c.in_ok-gathered.field-0) q
    ∙ c.in_ok-gathered.ensures q
    ∙ (λ i. unwrap_or (c.in_ok-newest.ensures q i)
    ((ap (λ runs. shown_in (runs_of runs) q) c.as_slice.ensures ∙ shown_in-inside (runs_of c.self.inside.runs) c.args.self.now c.self.view_is q) i))
