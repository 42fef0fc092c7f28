use Rattle.std.proofs.Common.{[]}
use Rattle.saw_identity.proofs.policy.PolicyMessage.encode.Goals as goal

pub returns : goal.returns
returns c = c.in_ok-write_items.ensures _ (c.in_ok-write_text.ensures [] c.new-out.ensures.items)
