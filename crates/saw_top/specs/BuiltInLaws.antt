-- What is true of the processors of a run without external ones.
use Rattle.std.specs.Prelude.{◌≡◌, true, List}
use Rattle.saw_context.specs.Outcome.{Processors}
use Rattle.saw_messages.specs.Reasons.{has_own_reason}
use Rattle.saw_messages.specs.TxShapes.{TxShape}
use Rattle.saw_messages.specs.declared.talk.Turn.{Turn}
use Rattle.saw_top.specs.World.{TellsAll, processors_alone}

-- processors that refuse by their own reasons
abbrev pub RefuseByOwn : Processors → Type 0
RefuseByOwn processors = (tx : TxShape) (turns : List Turn) → has_own_reason (processors.next tx turns) ≡ true

-- they do, and are deterministic
abbrev pub BuiltInTell : Type 0
BuiltInTell = TellsAll processors_alone × RefuseByOwn processors_alone
