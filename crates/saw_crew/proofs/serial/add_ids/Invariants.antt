use Rattle.std.proofs.Common.{List, ◌++◌, take}
use Rattle.saw_messages.specs.TxShapes.{TxShape}
use Rattle.saw_plan.specs.BatchShapes.{shapes_of}
use Rattle.saw_crew.specs.Failing.{HoldsTxs}
use Rattle.saw_crew.proofs.serial.add_ids.Given as goal

-- the ids so far are there
abbrev pub invariant-loop-tx : goal.invariant-loop-tx
invariant-loop-tx l = (others : List TxShape) → HoldsTxs l.initial.seen others → HoldsTxs l.seen (others ++ shapes_of (take l.tx-index l.txs))
