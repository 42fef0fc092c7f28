use Rattle.saw_linkmsg.proofs.EnvelopesBack.{envelope_is_read}
use Rattle.saw_linkmsg.proofs.laws.envelopes_are_read_back.Goals as goal

pub returns : goal.returns
returns c = envelope_is_read
