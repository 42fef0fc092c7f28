use Rattle.std.proofs.Common.{ap, ◌∙◌}
use Rattle.std.specs.Prelude.{is_some}
use Rattle.indexmap.specs.IndexMap.{values}
use Rattle.saw_journal.proofs.Lookups.{copied_is_some, is_there}
use Rattle.saw_journal.proofs.place.has_block.Goals as goal

pub returns : goal.returns
returns c = c.is_some.ensures ∙ copied_is_some c.block_at.result ∙ ap is_some c.block_at.ensures ∙ is_there (values c.args.blocks.now) c.args.id.now
