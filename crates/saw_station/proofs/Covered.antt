-- What was spoken changes only what the outputs of the transaction cover.
use Rattle.std.proofs.Common.{◌≡◌, ℕ, Bool, true, false, List, [], ◌∷◌, map, None, refl, sym}
use Rattle.std.specs.List.{AllByRecursion, list_all}
use Rattle.std.proofs.lemmas.Bool.{and_from}
use Rattle.saw_address.specs.Maps.{StateMap, is_address}
use Rattle.saw_messages.specs.declared.outcome.Change.{Change}
use Rattle.saw_messages.specs.declared.outcome.Outcome.TheVariants as outcomes
use Rattle.saw_messages.specs.declared.receipt.Event.{Event}
use Rattle.saw_messages.specs.declared.talk.Action.{Action}
use Rattle.saw_messages.specs.declared.talk.Action.TheVariants as actions
use Rattle.saw_messages.specs.declared.talk.Turn.{Turn}
use Rattle.saw_messages.specs.declared.transaction.TransactionHeader.{TransactionHeader}
use Rattle.saw_context.specs.Conversation.{are_covering}
use Rattle.saw_context.specs.Coverage.{are_changes_covered}
use Rattle.saw_context.specs.Outcome.{conversed, outcome_at}
use Rattle.saw_context.specs.SoundResults.{as_asked}
use Rattle.saw_context.specs.Views.{Layers, over}
use Rattle.saw_context.specs.declared.reads.Read.{Read}
use Rattle.saw_context.proofs.Covered.{changes_granted}
use Rattle.saw_station.specs.Spoken.{IsSpoken}
use Rattle.saw_station.proofs.Conversed.{conversed-by}
use Rattle.saw_station.proofs.Replays.{replay, replay_gives, replay_last}

covering_all : (texts : List (List ℕ)) (changes : List Change)
    → AllByRecursion (λ change. (are_covering texts change.address ≡ true) × (is_address change.address ≡ true)) changes
    → list_all (λ change. are_covering texts change.address) changes ≡ true
covering_all texts [] all = refl
covering_all texts (change ∷ changes) all = and_from _ _ all.0.0 (covering_all texts changes all.1)

-- what was spoken is the conversation of a function that says it again
pub spoken_covered : (tells : Bool) (next : List Turn → Action) (header : TransactionHeader) (base : StateMap) (layers : Layers)
    (turns : List Turn) (last : Action) (changes : List Change) (events : List Event) (reads : List Read)
    → IsSpoken tells next header base layers turns last changes events reads
    → are_changes_covered header.outputs (outcome_at last changes events) ≡ true
spoken_covered tells next header base layers turns (actions.Get places) changes events reads spoken = refl
spoken_covered tells next header base layers turns (actions.Set entries) changes events reads spoken = refl
spoken_covered tells next header base layers turns (actions.Delete places) changes events reads spoken = refl
spoken_covered tells next header base layers turns (actions.AddEvent event) changes events reads spoken = refl
spoken_covered tells next header base layers turns (actions.Invalid reason) changes events reads spoken = refl
spoken_covered tells next header base layers turns actions.Ok changes events reads spoken =
    let again : List Turn → Action = replay turns actions.Ok in
    let is : again turns ≡ actions.Ok = replay_last turns actions.Ok in
    let came : conversed again header (over base layers) ≡ outcomes.Ok changes events =
    conversed-by again header (over base layers)
    (record { turns = turns; own = spoken.own; events = events; asked = map as_asked reads }) actions.Ok changes
    (spoken.spoken again (replay_gives turns actions.Ok) is) is spoken.made in
    covering_all header.outputs changes
    (changes_granted None false again header (over base layers) (outcomes.Ok changes events) changes events (sym came) refl)
