use Rattle.std.proofs.Common.{[]}
use Rattle.saw_settings.proofs.payload.SettingVoteMessage.encode.Goals as goal

pub returns : goal.returns
returns c = c.in_ok-write_small.ensures _ (c.in_ok-write_text.ensures [] c.new-out.ensures.items)
