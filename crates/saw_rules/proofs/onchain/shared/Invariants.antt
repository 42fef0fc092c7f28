use Rattle.std.proofs.Common.{◌≡◌, map, take}
use Rattle.std.specs.Arc.{arc_value}
use Rattle.saw_rules.proofs.onchain.shared.Given as goal

abbrev pub invariant-loop-tx : goal.invariant-loop-tx
invariant-loop-tx l = map arc_value l.copies.items ≡ map arc_value (take l.tx-index l.txs)
