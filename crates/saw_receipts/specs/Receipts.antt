-- The receipts of applied transactions.
use Rattle.std.specs.Prelude.{ℕ, List, [], map, Option, Some, None}
use Rattle.std.specs.List.{filter_map, zip}
use Rattle.hex.specs.Hex.{encode_lower}
use Rattle.saw_messages.specs.declared.outcome.Change.{Change}
use Rattle.saw_messages.specs.declared.outcome.Outcome.{Outcome}
use Rattle.saw_messages.specs.declared.outcome.Outcome.TheVariants as outcomes
use Rattle.saw_messages.specs.declared.receipt.Event.{Event}
use Rattle.saw_messages.specs.declared.receipt.Receipt.{Receipt}
use Rattle.saw_messages.specs.declared.receipt.StateChange.{StateChange}

-- kind 1 sets the value; kind 2 deletes the entry and has none
abbrev pub set_or_deleted : List ℕ → Option (List ℕ) → StateChange
set_or_deleted address (Some value) = record { address = address; value = value; kind = 1 }
set_or_deleted address None = record { address = address; value = []; kind = 2 }

-- a change as a receipt tells it, under the address's digits
abbrev pub told : Change → StateChange
told change = set_or_deleted (encode_lower change.address) change.value

-- the receipt of a transaction with these changes and events
abbrev pub receipt : List ℕ → List Change → List Event → Receipt
receipt id changes events = record { state_changes = map told changes; events = events; body = []; transaction_id = id }

-- an applied transaction has one, and an invalid one has none
abbrev pub receipt_by : List ℕ → Outcome → Option Receipt
receipt_by id (outcomes.Ok changes events) = Some (receipt id changes events)
receipt_by id (outcomes.Invalid reason) = None

-- the receipts of transactions with these ids and outcomes, in order
abbrev pub receipts : List (List ℕ) → List Outcome → List Receipt
receipts ids outcomes = filter_map (λ each. receipt_by each.0 each.1) (zip ids outcomes)
