-- Faults of messages.
use Rattle.std.specs.Prelude.{◌≡◌, ◌⊎◌, Result, Ok, Err, Option, Some, None}
use Rattle.saw_wire.specs.declared.fault.WireFault.{WireFault}
use Rattle.saw_wire.specs.declared.fault.WireFault.TheVariants as wires
use Rattle.saw_wire.specs.declared.fault.MessageFault.{MessageFault}
use Rattle.saw_wire.specs.declared.fault.MessageFault.TheVariants.{Wire, OutOfMemory}

-- a fault of the records, as a fault of the message
abbrev pub wrapped : WireFault → MessageFault
wrapped (wires.Cut at) = Wire (wires.Cut at)
wrapped (wires.BadKey at) = Wire (wires.BadKey at)
wrapped (wires.LongVarint at) = Wire (wires.LongVarint at)
wrapped wires.OutOfMemory = OutOfMemory

-- what was returned is what reading gives, unless memory ran out
abbrev pub IsReading : {A : Type 0} → Result A MessageFault → Result A MessageFault → Type 0
IsReading (Ok x) read = read ≡ Ok x
IsReading (Err e) read = (e ≡ OutOfMemory) ⊎ (read ≡ Err e)

infixr 9 ◌<|>◌
-- the first of two faults
abbrev pub ◌<|>◌ : Option MessageFault → Option MessageFault → Option MessageFault
(Some e) <|> other = Some e
None <|> other = other
