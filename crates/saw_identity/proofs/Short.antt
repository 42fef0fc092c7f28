-- The family's requests are short.
use Rattle.std.proofs.Common.{ℕ, ◌<◌, ◌^◌, List, arith}
use Rattle.saw_messages.specs.declared.talk.Turn.{Turn}
use Rattle.saw_station.specs.TalkSteps.{IsShort}
use Rattle.saw_identity.specs.Actions.{next}
use Rattle.saw_identity.specs.Reasons.{each_action}

one_fits : 1 < 2 ^ 32
one_fits = omega arith

none_fits : 0 < 2 ^ 32
none_fits = omega arith

-- each request is for one place
pub next_short : (signer payload : List ℕ) (turns : List Turn) → IsShort (next signer payload turns)
next_short = each_action IsShort (λ place. one_fits) (λ entry. one_fits) (λ event. none_fits) none_fits (λ number own. none_fits)
