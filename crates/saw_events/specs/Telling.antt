-- Which events are told.
use Rattle.std.specs.Prelude.{ℕ, Bool, true, List, Option, None, Some}
use Rattle.std.specs.List.{list_any}
use Rattle.std.specs.Str.{bytes_eq}
use Rattle.saw_messages.specs.declared.receipt.Event.{Event}
use Rattle.saw_events.specs.Events.{is_wanted}
use Rattle.saw_events.specs.declared.filter.Subscription.{Subscription}

-- each where no subscriptions are given, and else those that one asks for
abbrev pub is_told : Option (List Subscription) → Event → Bool
is_told None event = true
is_told (Some wishes) event = is_wanted wishes event

-- whether events of a type are asked for
abbrev pub may_tell : Option (List Subscription) → List ℕ → Bool
may_tell None event_type = true
may_tell (Some wishes) event_type = list_any (λ wish. bytes_eq wish.event_type event_type) wishes
