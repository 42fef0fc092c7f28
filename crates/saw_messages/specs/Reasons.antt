-- The reasons by which processors refuse transactions.
use Rattle.std.specs.Prelude.{ℕ, Bool, true, false, nat_lt}
use Rattle.saw_messages.specs.declared.outcome.Reason.{Reason}
use Rattle.saw_messages.specs.declared.outcome.Reason.TheVariants.{Remote, Family}
use Rattle.saw_messages.specs.declared.talk.Action.{Action}
use Rattle.saw_messages.specs.declared.talk.Action.TheVariants as actions

-- a processor's own reason: that of an external one, or a family's number, above 100
abbrev pub is_own_reason : Reason → Bool
is_own_reason Remote = true
is_own_reason (Family number) = nat_lt 100 number
is_own_reason _ = false

-- a refusal by a family's number
abbrev pub invalid : ℕ → Action
invalid number = actions.Invalid (Family number)

-- an action that refuses by such a reason, or refuses nothing
abbrev pub has_own_reason : Action → Bool
has_own_reason (actions.Invalid reason) = is_own_reason reason
has_own_reason _ = true
