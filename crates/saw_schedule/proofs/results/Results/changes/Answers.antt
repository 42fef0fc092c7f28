use Rattle.std.proofs.Common.{ap, ◌∙◌}
use Rattle.saw_context.proofs.Gathered.{after-none}
use Rattle.saw_context.specs.Outcome.{changes_of, map_after}
use Rattle.saw_context.specs.Serial.{left_after}
use Rattle.saw_schedule.proofs.results.Results.changes.Goals as goal

pub loop-batch-init : goal.loop-batch-init
loop-batch-init c = λ m.
    ap (λ n. left_after n c.args.self.now.batches) (ap (λ own. map_after m (changes_of own)) c.new-gathered.ensures ∙ after-none m)
