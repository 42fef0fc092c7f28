use Rattle.std.proofs.Common.{take, map}
use Rattle.std.specs.Arc.{arc_value}
use Rattle.std.specs.List.{list_all}
use Rattle.saw_lanes.specs.Claims.{Adds, is_tx_claimed}
use Rattle.saw_lanes.proofs.claims.add_txs.Given as goal

-- the transactions so far are claimed
abbrev pub invariant-loop-tx : goal.invariant-loop-tx
invariant-loop-tx l = Adds l.fn.claims.items l.claims.items (λ passes. list_all (is_tx_claimed passes l.batch) (map arc_value (take l.tx-index l.txs)))
