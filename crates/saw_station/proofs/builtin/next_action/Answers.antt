use Rattle.std.proofs.Common.{◌≡◌, ℕ, ◌<◌, ◌^◌, List, sym, subst, arith}
use Rattle.std.proofs.lemmas.Result.{IfOk-weaker}
use Rattle.saw_messages.specs.declared.talk.Turn.{Turn}
use Rattle.saw_settings.proofs.Reasons.{each_action}
use Rattle.saw_settings.specs.Actions.{next}
use Rattle.saw_station.specs.TalkSteps.{IsShort}
use Rattle.saw_station.proofs.builtin.next_action.Goals as goal

one_fits : 1 < 2 ^ 32
one_fits = omega arith

none_fits : 0 < 2 ^ 32
none_fits = omega arith

-- each request of the settings is for one place
next_short : (signer payload : List ℕ) (turns : List Turn) → IsShort (next signer payload turns)
next_short = each_action IsShort (λ place. one_fits) (λ entry. one_fits) (λ event. none_fits) none_fits (λ number own. none_fits)

pub returns-in-Some-Settings-clause-short : goal.returns-in-Some-Settings-clause-short
returns-in-Some-Settings-clause-short c =
    let tx = c.args.tx.now in
    let signer = tx.header.signer_public_key in
    let turns = c.args.talk.now.turns in
    IfOk-weaker c.step-in-Some-Settings.result (λ action. action ≡ next signer tx.payload turns) IsShort
    (λ action is. subst IsShort (sym is) (next_short signer tx.payload turns)) c.step-in-Some-Settings.ensures
