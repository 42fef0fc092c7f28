use Rattle.std.proofs.Common.{◌∙◌}
use Rattle.std.specs.FinMap as finite
use Rattle.saw_context.specs.Views.{layers_of}
use Rattle.saw_schedule.proofs.Seeing.{seen-layer, unseen-layer}
use Rattle.saw_schedule.proofs.agreement.is_seen.Goals as goal

pub returns-in-Some : goal.returns-in-Some
returns-in-Some c = c.is_entry.ensures ∙ seen-layer (λ at. finite.get (layers_of c.args.view.now) at) c.args.read.now c.in-Layer.index c.in-Some.entry.now c.in-Layer.is c.in-Some.ensures

pub returns-in-None : goal.returns-in-None
returns-in-None c = unseen-layer (λ at. finite.get (layers_of c.args.view.now) at) c.args.read.now c.in-Layer.index c.in-Layer.is c.in-None.ensures
