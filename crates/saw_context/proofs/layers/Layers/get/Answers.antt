use Rattle.std.proofs.Common.{ap, ◌∙◌}
use Rattle.saw_context.specs.Runs.{runs_of, shown_in}
use Rattle.saw_context.proofs.Runs.{shown_in-inside}
use Rattle.saw_context.proofs.layers.Layers.get.Goals as goal

pub returns : goal.returns
returns c =
    c.shown_in.ensures
    ∙ ap (λ runs. shown_in (runs_of runs) c.args.at.now) c.as_slice.ensures
    ∙ shown_in-inside (runs_of c.self.inside.runs) c.args.self.now c.self.view_is c.args.at.now
