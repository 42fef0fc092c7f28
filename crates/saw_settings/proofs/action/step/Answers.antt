use Rattle.std.proofs.Common.{sym, ap, ◌∙◌}
use Rattle.saw_settings.specs.Actions.{act, next_after}
use Rattle.saw_settings.specs.Turns.{replies_from, seen}
use Rattle.saw_settings.specs.Values.{keys_of}
use Rattle.saw_settings.proofs.Going.{goes}
use Rattle.saw_settings.proofs.action.step.Goals as goal

pub returns-in_ok-keys-in-Goes : goal.returns-in_ok-keys-in-Goes
unfolding next_after
returns-in_ok-keys-in-Goes c =
    let turns = c.as_slice.result.now in
    let signer = c.as_str.result.now in
    let payload = c.as_slice-in-Goes-2.result.now in
    let keys = c.as_slice-in-Goes.ensures ∙ c.in_ok-keys-in-Goes.ensures in
    rw (← c.as_slice.ensures, ← c.tx.view_is, ← c.as_str.ensures, ← c.as_slice-in-Goes-2.ensures) (goes c.act.result _ c.in-Goes.value
    (replies_from c.in-Goes.at turns) (λ value rest. act (keys_of value) signer payload rest)
    (ap (seen turns) (sym c.in-Goes.is) ∙ c.in_ok-action.ensures) (rw (← keys) c.act.ensures))
