use Rattle.std.proofs.Common.{ℕ, List, [], take}
use Rattle.saw_address.specs.Maps.{StateMap}
use Rattle.saw_rules.specs.Courses.{Stands}
use Rattle.saw_rules.proofs.onchain.OnChainRules.add_all.Given as goal

abbrev pub invariant-loop-batch : goal.invariant-loop-batch
invariant-loop-batch l = (m : StateMap) (signer : List ℕ) → Stands l.fn.self m signer [] → Stands l.self m signer (take l.batch-index l.batches)
