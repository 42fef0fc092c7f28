use Rattle.std.proofs.Common.{sym, ◌∙◌}
use Rattle.saw_settings.proofs.Numerals.{number_read}
use Rattle.saw_settings.proofs.value.number_in.Goals as goal

pub returns-then-is_number : goal.returns-then-is_number
returns-then-is_number c = c.ok.ensures.value ∙ number_read c.args.text.now c.parse.result c.parse.ensures.value.0 (sym c.if-is_number.ensures)
