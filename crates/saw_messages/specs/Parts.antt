-- What some records say together.
use Rattle.std.specs.Prelude.{List, Option, Result}
use Rattle.saw_wire.specs.Pieces.{Piece}
use Rattle.saw_wire.specs.MessageReading.{first_fault, unless}
use Rattle.saw_wire.specs.declared.fault.MessageFault.{MessageFault}

-- what records say, or the fault of the first that has one
abbrev pub said_by : {A : Type 0} → (List Piece → A) → (Piece → Option MessageFault) → List Piece → Result A MessageFault
said_by of fault pieces = unless (first_fault fault pieces) (of pieces)
