-- What is true of the state changes that blocks tell.
use Rattle.std.specs.Prelude.{◌≡◌, true, List, map, Ok}
use Rattle.std.specs.List.{AllByRecursion}
use Rattle.saw_address.specs.Maps.{StateMap, is_address}
use Rattle.saw_context.specs.Outcome.{map_after}
use Rattle.saw_messages.specs.ReadBack.{IsStateChange}
use Rattle.saw_messages.specs.declared.outcome.Change.{Change}
use Rattle.saw_receipts.specs.Receipts.{told}
use Rattle.saw_wire.specs.Writing.{AreWritable, spelled}
use Rattle.saw_events.specs.Events.{last_changes}
use Rattle.saw_events.specs.Following.{change_list, change_of}
use Rattle.saw_events.specs.Messages.{changes_pieces}
use Rattle.saw_events.specs.declared.change_list.StateChangeList.{StateChangeList}

-- a value of the type: its changes are such, and its lengths fit their type
pub record IsChangeList (m : StateChangeList) : Type 0 where
  pub state_changes : AllByRecursion IsStateChange m.state_changes
  pub fits : AreWritable (changes_pieces m)

-- what is written for changes is read back
abbrev pub ChangesAreReadBack : Type 0
ChangesAreReadBack = (m : StateChangeList) → IsChangeList m → change_list (spelled (changes_pieces m)) ≡ Ok m

-- the last change at each address leaves what all the changes leave, one after another
abbrev pub LastChangesShow : Type 0
LastChangesShow = (m : StateMap) (changes : List Change) → AllByRecursion (λ change. is_address change.address ≡ true) changes
    → map_after m (map change_of (last_changes (map told changes))) ≡ map_after m changes
