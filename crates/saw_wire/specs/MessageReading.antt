-- Reading a message from the records of its bytes.
use Rattle.std.specs.Prelude.{ℕ, List, [], ◌∷◌, Option, Some, None, Result, Ok, Err}
use Rattle.saw_wire.specs.declared.fault.WireFault.{WireFault}
use Rattle.saw_wire.specs.Pieces.{Piece}
use Rattle.saw_wire.specs.Reading.{records_of}
use Rattle.saw_wire.specs.declared.fault.MessageFault.{MessageFault}
use Rattle.saw_wire.specs.declared.fault.MessageFault.TheVariants.{Wire}
use Rattle.saw_wire.specs.MessageFaults.{◌<|>◌}

-- the first fault of records, in their order
unfoldable pub first_fault : (Piece → Option MessageFault) → List Piece → Option MessageFault
first_fault fault [] = None
first_fault fault (piece ∷ pieces) = fault piece <|> first_fault fault pieces

abbrev pub unless : {A : Type 0} → Option MessageFault → A → Result A MessageFault
unless None x = Ok x
unless (Some e) x = Err e

abbrev pub pieces_among : Result (List Piece) WireFault → List Piece
pieces_among (Ok pieces) = pieces
pieces_among (Err e) = []

abbrev pub fault_among : (Piece → Option MessageFault) → Result (List Piece) WireFault → Option MessageFault
fault_among fault (Ok pieces) = first_fault fault pieces
fault_among fault (Err e) = Some (Wire e)

-- the records of bytes that spell some
unfoldable pub pieces_of : List ℕ → List Piece
pieces_of bytes = pieces_among (records_of bytes)

-- the first fault of bytes: that of the records, else that of the first record which has one
unfoldable pub fault_of : (Piece → Option MessageFault) → List ℕ → Option MessageFault
fault_of fault bytes = fault_among fault (records_of bytes)

-- the message of bytes, by the message of records and the fault of one record
abbrev pub reading : {A : Type 0} → (List Piece → A) → (Piece → Option MessageFault) → List ℕ → Result A MessageFault
reading of fault bytes = unless (fault_of fault bytes) (of (pieces_of bytes))
