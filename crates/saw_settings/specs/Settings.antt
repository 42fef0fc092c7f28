-- The value of a setting in a state.
use Rattle.std.specs.Prelude.{ℕ, List, Option, Some, None, Result, Ok, Err}
use Rattle.saw_address.specs.Maps.{StateMap, value_at}
use Rattle.saw_wire.specs.declared.fault.MessageFault.{MessageFault}
use Rattle.saw_settings.specs.Keys.{address_of, value_in}
use Rattle.saw_settings.specs.Messages.{setting}
use Rattle.saw_settings.specs.declared.setting.Setting.{Setting}

abbrev pub value_read : List ℕ → Result Setting MessageFault → Option (List ℕ)
value_read key (Ok read) = value_in key read.entries
value_read key (Err e) = None

abbrev pub value_by : List ℕ → Option (List ℕ) → Option (List ℕ)
value_by key None = None
value_by key (Some bytes) = value_read key (setting bytes)

-- the value of the first entry with the key; bytes that are no setting have none
unfoldable pub setting_of : StateMap → List ℕ → Option (List ℕ)
setting_of m key = value_by key (value_at m (address_of key))
