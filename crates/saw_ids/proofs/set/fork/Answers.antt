use Rattle.saw_ids.proofs.Parting.{parted}
use Rattle.saw_ids.proofs.set.fork.Goals as goal

pub returns : goal.returns
returns c = λ other. rw (c.in_ok-new.ensures.ok, c.in_ok-new-2.ensures.ok, c.in_ok-going.ensures, c.in_ok-going-2.ensures) (parted _ c.args.bit other)
