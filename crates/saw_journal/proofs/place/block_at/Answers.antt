use Rattle.std.proofs.Common.{ap, ◌∙◌}
use Rattle.std.specs.Map.{lookup}
use Rattle.std.specs.Prelude.{string_bytes}
use Rattle.std.specs.Str.{bytes_eq}
use Rattle.saw_journal.proofs.Lookups.{found}
use Rattle.saw_journal.proofs.place.block_at.Goals as goal

pub returns : goal.returns
returns c =
    c.get.ensures.value ∙ ap (λ q. lookup (λ k. bytes_eq q (string_bytes k)) c.args.blocks.now.entries) c.as_str.ensures
    ∙ found c.args.blocks.now.entries c.args.id.now c.requires
