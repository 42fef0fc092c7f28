-- How a setting is read and written, one request after another: 301 a request is refused, 302 the bytes there are no setting.
use Rattle.std.specs.Prelude.{ℕ, List, [], ◌∷◌, Option, if◌then◌else◌, codes}
use Rattle.std.specs.Str.{bytes_eq}
use Rattle.saw_wire.specs.Writing.{spelled}
use Rattle.saw_messages.specs.declared.receipt.Event.{Event}
use Rattle.saw_messages.specs.declared.talk.Action.{Action}
use Rattle.saw_messages.specs.declared.talk.Action.TheVariants as actions
use Rattle.saw_messages.specs.declared.talk.Place.TheVariants.{At}
use Rattle.saw_messages.specs.declared.talk.Reply.{Reply}
use Rattle.saw_settings.specs.Keys.{address_of, proposals, value_in, with_value}
use Rattle.saw_settings.specs.Messages.{setting, entries_pieces}
use Rattle.saw_settings.specs.Requests.{Told, Goes, and_then, done, message_at, update_of}
use Rattle.saw_settings.specs.declared.setting.Setting.{Setting}
use Rattle.saw_settings.specs.declared.setting.SettingEntry.{SettingEntry}

-- the setting that is kept where the key is
abbrev pub setting_at : List ℕ → List Reply → Told Setting
setting_at key replies = message_at 301 302 setting (address_of key) replies

-- its value, where it has one
unfoldable pub value_at : List ℕ → List Reply → Told (Option (List ℕ))
value_at key replies = and_then (setting_at key replies) (λ kept rest. Goes (value_in key kept.entries) rest)

-- ---- one setting is written: it is read again, set, and an event tells of it, unless it is the list of proposals

abbrev pub set_to : List ℕ → List SettingEntry → Action
set_to key entries = actions.Set (record { place = At (address_of key); body = spelled (entries_pieces (record { entries = entries })) } ∷ [])

-- the event of a change
abbrev pub change_of : List ℕ → Event
change_of key = update_of (codes "settings/update") key

abbrev pub told_of : List ℕ → List Reply → Told (Unit {0})
told_of key replies =
    if bytes_eq key proposals then Goes tt replies
    else done 301 (actions.AddEvent (change_of key)) replies

-- the setting has the value
unfoldable pub written_to : List ℕ → List ℕ → List Reply → Told (Unit {0})
written_to key value replies =
    and_then (setting_at key replies)
    (λ kept rest. and_then (done 301 (set_to key (with_value key value kept.entries)) rest) (λ nothing behind. told_of key behind))
