use Rattle.std.proofs.Common.{ap, ◌∙◌}
use Rattle.saw_context.specs.Outcome.{changes_of, map_after}
use Rattle.saw_context.proofs.Gathered.{after-none}
use Rattle.saw_context.proofs.changed.Changed.new.Goals as goal

pub returns : goal.returns
returns g c =
    let m = g.B.Base.entry c.args.below.now in
    ap (λ own. map_after m (changes_of own)) c.new.ensures ∙ after-none m
