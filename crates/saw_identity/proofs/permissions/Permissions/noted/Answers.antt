use Rattle.std.proofs.Common.{sym, ◌∙◌}
use Rattle.saw_identity.proofs.permissions.Permissions.noted.Goals as goal

pub returns-in_ok-permit-in-None-clause-ok : goal.returns-in_ok-permit-in-None-clause-ok
returns-in_ok-permit-in-None-clause-ok c = λ m t holds is. c.in_ok-permit-in-None.ensures.ok m t holds (sym is ∙ c.in-None.is)
