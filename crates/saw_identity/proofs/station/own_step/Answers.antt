use Rattle.std.proofs.Common.{ap, subst, sym, ◌∙◌}
use Rattle.saw_messages.specs.Reasons.{has_own_reason}
use Rattle.saw_station.specs.TalkSteps.{IsShort}
use Rattle.saw_identity.specs.Reasons.{next_own}
use Rattle.saw_identity.proofs.Short.{next_short}
use Rattle.saw_identity.proofs.station.own_step.Goals as goal

pub returns-clause-reason : goal.returns-clause-reason
returns-clause-reason c =
    let tx = c.args.tx.now in
    ap has_own_reason c.in_ok-action.ensures ∙ next_own tx.header.signer_public_key tx.payload c.args.talk.now.turns

pub returns-clause-short : goal.returns-clause-short
returns-clause-short c =
    let tx = c.args.tx.now in
    subst IsShort (sym c.in_ok-action.ensures) (next_short tx.header.signer_public_key tx.payload c.args.talk.now.turns)
