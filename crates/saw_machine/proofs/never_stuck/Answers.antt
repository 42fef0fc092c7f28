use Rattle.saw_machine.proofs.Stuck.{never-stuck}
use Rattle.saw_machine.proofs.never_stuck.Goals as goal

pub returns : goal.returns
returns c = never-stuck
