use Rattle.std.proofs.Common.{ap, unwrap_or, ◌∙◌}
use Rattle.std.specs.FinMap as finite
use Rattle.saw_context.specs.Runs.{last_of}
use Rattle.saw_live.proofs.Layered.{all_changed}
use Rattle.saw_live.proofs.snapshot.with_changes.Goals as goal

pub returns : goal.returns
returns c =
    let layers = c.args.layers.now in
    all_changed c.args.changes.items layers c.in_ok-made.made (λ q.
    c.in_ok-made.ensures q ∙ ap (λ marks. unwrap_or (last_of marks q) (finite.get layers q)) c.in_ok-marks.ensures)
