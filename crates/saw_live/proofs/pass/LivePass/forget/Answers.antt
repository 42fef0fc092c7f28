use Rattle.std.proofs.Common.{ap, ◌∙◌}
use Rattle.saw_address.specs.Maps.{no_entries}
use Rattle.saw_context.specs.Views.{over}
use Rattle.saw_live.proofs.Layered.{no_layers}
use Rattle.saw_live.proofs.pass.LivePass.forget.Goals as goal

pub returns-clause-fresh : goal.returns-clause-fresh
returns-clause-fresh g c = record { root = c.in_ok-root.ensures; map = ap (over no_entries) c.new.ensures ∙ no_layers }
