use Rattle.std.proofs.Common.{◌≡◌, None, map, refl, ap, ◌∙◌, rules}
use Rattle.saw_context.specs.Conversation.{first_refused}
use Rattle.saw_context.proofs.Origins.{gets}
use Rattle.saw_context.proofs.context.Context.get.Goals as goal

pub returns-clause-ok : goal.returns-clause-ok
returns-clause-ok g c =
    let granted : first_refused c.args.self.now.header.inputs c.args.places.now ≡ None = search rules in
    gets c.args.self.now _ c.args.places.now c.in_ok-bodies.bodies.items c.in_ok-reads.reads.items granted c.in_ok-reads.ensures
    (c.in_ok-bodies.ensures ∙ ap (map (λ read. read.body)) c.deref.ensures.value)
    (rw (c.in_ok-append.ensures.items, ← c.self.view_is) refl)
