use Rattle.std.proofs.Common.{[]}
use Rattle.saw_settings.proofs.payload.SettingProposalMessage.encode.Goals as goal

pub returns : goal.returns
returns c = c.in_ok-write_text-3.ensures _ (c.in_ok-write_text-2.ensures _ (c.in_ok-write_text.ensures [] c.new-out.ensures.items))
