use Rattle.std.proofs.Common.{[]}
use Rattle.saw_settings.proofs.payload.SettingsPayloadMessage.encode.Goals as goal

pub returns : goal.returns
returns c = c.in_ok-write_bytes.ensures _ (c.in_ok-write_small.ensures [] c.new-out.ensures.items)
