use Rattle.std.proofs.Common.{sym, ap, ◌∙◌}
use Rattle.saw_settings.specs.Requests.{Told, then_do}
use Rattle.saw_settings.specs.Turns.{replies_from, seen}
use Rattle.saw_settings.specs.declared.setting.Setting.{Setting}
use Rattle.saw_settings.proofs.Going.{goes}
use Rattle.saw_identity.specs.Actions.{act, next_after}
use Rattle.saw_identity.proofs.action.step.Goals as goal

pub returns-in-Due : goal.returns-in-Due
unfolding next_after
returns-in-Due c =
    let tx = c.args.tx.now in
    let told = ap (seen c.as_slice.result.now) (sym c.in-Due.is) ∙ c.in_ok-action.ensures in
    rw (← c.as_slice.ensures, ← c.address_of.ensures) (ap (λ (t : Told Setting). then_do t (act tx.header.signer_public_key tx.payload)) told)

pub returns-in-Goes : goal.returns-in-Goes
unfolding next_after
returns-in-Goes c =
    let turns = c.as_slice.result.now in
    let signer = c.as_str.result.now in
    let payload = c.as_slice-in-Goes.result.now in
    rw (← c.as_slice.ensures, ← c.address_of.ensures, ← c.tx.view_is, ← c.as_str.ensures, ← c.as_slice-in-Goes.ensures)
    (goes c.act.result _ c.in-Goes.kept (replies_from c.in-Goes.at turns) (act signer payload)
    (ap (seen turns) (sym c.in-Goes.is) ∙ c.in_ok-action.ensures) c.act.ensures)
