use Rattle.std.proofs.Common.{arith}
use Rattle.std.proofs.lemmas.Grind.{common_steps}
use Rattle.saw_ready.proofs.undone.note_members.Goals as goal

pub loop-m-init : goal.loop-m-init
loop-m-init c = grind (arith, common_steps)

pub returns : goal.returns
returns c = grind (arith, common_steps)
