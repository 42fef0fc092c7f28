-- What is told of a branch to one who knows some of its blocks.
use Rattle.std.specs.Prelude.{ℕ, Bool, List, [], ◌∷◌, map, Option, None, Some, option_map, if◌then◌else◌}
use Rattle.std.specs.List.{filter, list_any}
use Rattle.std.specs.Option.{option_or}
use Rattle.std.specs.Str.{bytes_eq}
use Rattle.saw_receipts.specs.declared.block.BlockRecord.{BlockRecord}
use Rattle.saw_events.specs.Events.{events_of, is_wanted}
use Rattle.saw_events.specs.declared.filter.Subscription.{Subscription}
use Rattle.saw_events.specs.declared.told.BlockEvents.{BlockEvents}

-- what stands behind the last one that passes a test, if one does
abbrev pub behind_last : {A : Type 0} → (A → Bool) → List A → Option (List A)
behind_last test [] = None
behind_last test (x ∷ xs) = option_or (behind_last test xs) (if test x then Some xs else None)

abbrev pub is_known : List (List ℕ) → BlockRecord → Bool
is_known known block = list_any (λ id. bytes_eq block.id id) known

-- The blocks behind the last one that is known, and all of them where none is named. None: none of the named is there.
abbrev pub news_of : List (List ℕ) → List BlockRecord → Option (List BlockRecord)
news_of [] branch = Some branch
news_of (first ∷ others) branch = behind_last (is_known (first ∷ others)) branch

-- the events of a block that are asked for, each once, if there are any
abbrev pub told_of : List Subscription → BlockRecord → BlockEvents
told_of wishes block = record { id = block.id; events = filter (is_wanted wishes) (events_of block) }

-- each new block of a branch with what is asked for
abbrev pub replay : List BlockRecord → List (List ℕ) → List Subscription → Option (List BlockEvents)
replay branch known wishes = option_map (map (told_of wishes)) (news_of known branch)
