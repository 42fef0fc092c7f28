-- Processors that refuse by reasons of their own: running batches one after another is a way that may come of them.
use Rattle.std.proofs.Common.{◌≡◌, true, List}
use Rattle.saw_context.specs.Outcome.{Processors}
use Rattle.saw_messages.specs.Reasons.{has_own_reason}
use Rattle.saw_messages.specs.TxShapes.{TxShape}
use Rattle.saw_messages.specs.declared.talk.Turn.{Turn}
use Rattle.saw_receipts.proofs.Ways.{is_by_serial}
use Rattle.saw_top.specs.World.{AreWays, serially}

abbrev pub HasOwnReasons : Processors → Type 0
HasOwnReasons processors = (tx : TxShape) (turns : List Turn) → has_own_reason (processors.next tx turns) ≡ true

pub serial_may : (processors : Processors) → HasOwnReasons processors → AreWays processors (serially processors)
serial_may processors own = record { blocks = λ place. is_by_serial processors own; candidate = is_by_serial processors own }
