-- Replies by their place among the turns, as the code goes through them.
use Rattle.std.specs.Prelude.{ℕ, List, map, drop, Result, Ok, Err}
use Rattle.saw_messages.specs.Reasons.{invalid}
use Rattle.saw_messages.specs.declared.talk.Reply.{Reply}
use Rattle.saw_messages.specs.declared.talk.Turn.{Turn}
use Rattle.saw_settings.specs.Requests.{Told, Due, Goes}
use Rattle.saw_settings.specs.declared.talk.Told.{Told as ToldAt}
use Rattle.saw_settings.specs.declared.talk.Told.TheVariants as places

-- the replies from a place on
abbrev pub replies_from : ℕ → List Turn → List Reply
replies_from at turns = map (λ turn. turn.reply) (drop at turns)

-- what was told, with the replies behind it in place of where they begin
abbrev pub seen : {A : Type 0} → List Turn → ToldAt A → Told A
seen turns (places.Due action) = Due action
seen turns (places.Goes told at) = Goes told (replies_from at turns)

-- what was read of a reply, before the others
abbrev pub told_before : {A : Type 0} → List Reply → Result A ℕ → Told A
told_before rest (Ok told) = Goes told rest
told_before rest (Err number) = Due (invalid number)
