use Rattle.std.proofs.Common.{reverse, Some, sym, ap, ◌∙◌}
use Rattle.saw_publish.specs.Dropping.{begins_at}
use Rattle.saw_publish.proofs.Drops.{drops_next}
use Rattle.saw_publish.proofs.Taking.{front_taken}
use Rattle.saw_publish.proofs.dropped.fate_at.Goals as goal

pub returns-in-Some : goal.returns-in-Some
returns-in-Some c =
    λ cause others is. drops_next (reverse c.args.waiting.now.items) (reverse c.pop.new.self.items) c.in-Some.dropped c.args.place cause others
    (sym (c.if-not-is_next.ensures ∙ ap (λ waiting. begins_at c.args.place (reverse waiting)) c.deref.ensures.value))
    (front_taken c.args.waiting.now.items c.pop.new.self.items (Some c.in-Some.dropped) c.in-Some.ensures.items) is
