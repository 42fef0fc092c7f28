use Rattle.std.proofs.Common.{[]}
use Rattle.saw_identity.proofs.policy.EntryMessage.encode.Goals as goal

pub returns : goal.returns
returns c = c.in_ok-write_text.ensures _ (c.in_ok-write_small.ensures [] c.new-out.ensures.items)
