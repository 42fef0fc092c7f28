use Rattle.saw_sha.proofs.LaneLemmas.{shifts_right}
use Rattle.saw_sha.proofs.words.shift_right.Goals as goal

pub returns : goal.returns
returns c = shifts_right c.args.k c.args.x c.fits-x.0
