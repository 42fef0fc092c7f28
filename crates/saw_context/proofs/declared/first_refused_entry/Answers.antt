use Rattle.std.proofs.Common.{not, sym, ◌∙◌}
use Rattle.saw_context.specs.Conversation.{is_granted}
use Rattle.saw_context.proofs.Places.{position-map}
use Rattle.saw_context.proofs.declared.first_refused_entry.Goals as goal

pub returns : goal.returns
returns c = c.position_refused.ensures ∙ sym (position-map (λ place. not (is_granted c.args.texts.now place)) (λ entry. entry.place) c.args.entries.now)
