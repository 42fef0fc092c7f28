use Rattle.std.proofs.Common.{refl, ◌∙◌}
use Rattle.saw_context.proofs.Views.{get-layers_of}
use Rattle.saw_schedule.proofs.OverlappingTexts.{texts-cover}
use Rattle.saw_schedule.proofs.view.view_over.Goals as goal

pub returns : goal.returns
returns c = λ at. get-layers_of (record { layers = c.in_ok-try_share.field-0; inputs = c.in_ok-prefixes_of.field-0 }) at ∙ rw (texts-cover c.args.texts.now _ at c.in_ok-prefixes_of.ensures, c.in_ok-try_share.ensures at) refl
