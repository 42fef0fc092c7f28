use Rattle.std.proofs.Common.{[]}
use Rattle.saw_identity.proofs.role.RoleMessage.encode.Goals as goal

pub returns : goal.returns
returns c = c.in_ok-write_text-2.ensures _ (c.in_ok-write_text.ensures [] c.new-out.ensures.items)
