-- Ways to run batches.
use Rattle.std.specs.Prelude.{List}
use Rattle.saw_address.specs.Maps.{StateMap}
use Rattle.saw_context.specs.Outcome.{Processors}
use Rattle.saw_context.specs.Possible.{MayComeOfAll}
use Rattle.saw_context.specs.declared.batch_result.BatchResult.{BatchResult}
use Rattle.saw_messages.specs.TxShapes.{TxShape}

-- how batches are run over a map
abbrev pub Runs : Type 0
Runs = StateMap → List (List TxShape) → List BatchResult

-- A way to run batches: what it gives is what may come of them, run one after another.
pub record RunsBy (processors : Processors) (runs : Runs) : Type 0 where
  pub serial : (m : StateMap) (batches : List (List TxShape)) → MayComeOfAll processors m batches (runs m batches)
