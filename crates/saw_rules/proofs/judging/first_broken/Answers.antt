use Rattle.std.proofs.Common.{map}
use Rattle.std.specs.Arc.{arc_value}
use Rattle.saw_rules.specs.OnChainRules.{is_broken}
use Rattle.saw_rules.proofs.Search.{seeks}
use Rattle.saw_rules.proofs.judging.first_broken.Goals as goal

pub loop-place-init : goal.loop-place-init
loop-place-init c = λ before counts earlier. seeks (is_broken c.args.signer.now before (map arc_value c.args.txs.now)) c.args.rules.now
