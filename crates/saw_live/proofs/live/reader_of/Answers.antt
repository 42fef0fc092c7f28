use Rattle.std.proofs.Common.{rules, refl, ap, ◌∙◌}
use Rattle.saw_address.specs.Maps.{no_entries}
use Rattle.saw_context.specs.Views.{over}
use Rattle.saw_live.proofs.HeadLists.{forks}
use Rattle.saw_live.proofs.Layered.{no_layers}
use Rattle.saw_live.proofs.live.reader_of.Goals as goal

pub split_pass-requires : goal.split_pass-requires
split_pass-requires c = (search rules, (search rules, (search rules, forks _ _)))

pub returns-clause-nothing : goal.returns-clause-nothing
returns-clause-nothing c = (refl, ap (over no_entries) c.new.ensures ∙ no_layers)
