-- What may come of a transaction keeps to what it declares.
use Rattle.std.proofs.Common.{◌≡◌, ◌⊎◌, inl, inr, Bool, true, false, Option, Some, None, refl, sym, ap, ◌∙◌}
use Rattle.saw_address.specs.Maps.{StateMap}
use Rattle.saw_messages.specs.Reasons.{has_own_reason}
use Rattle.saw_messages.specs.TxShapes.{TxShape}
use Rattle.saw_messages.specs.declared.outcome.Outcome.{Outcome}
use Rattle.saw_messages.specs.declared.outcome.Outcome.TheVariants as outcomes
use Rattle.saw_messages.specs.declared.outcome.Reason.{Reason}
use Rattle.saw_messages.specs.declared.outcome.Reason.TheVariants.{DependencyFailed, TooManyRequests}
use Rattle.saw_messages.specs.declared.talk.Action.TheVariants as actions
use Rattle.saw_context.specs.Laws.{HaveSame, KeepsAccess}
use Rattle.saw_context.specs.Outcome.{Processors, conversed, outcome_by, refusal}
use Rattle.saw_context.specs.Possible.{MayCome}
use Rattle.saw_context.proofs.Alike.{conversed_agree, granted_parts}
use Rattle.saw_context.proofs.Conversations.{conversed-Invalid}
use Rattle.saw_context.proofs.Covered.{changes_granted}

-- what may come may come over each map that has the same at the addresses that the inputs cover
comes_of_agreeing : (processors : Processors) (tx : TxShape) (m n : StateMap) (failed : Bool) (outcome : Outcome)
    → MayCome processors tx m failed outcome → HaveSame tx.header.inputs m n
    → MayCome processors tx n failed outcome
comes_of_agreeing processors tx m n failed outcome may agree = record {
  next = may.next;
  answers = may.answers;
  decided =
      may.decided
      ∙ ap (outcome_by (refusal processors tx) failed)
      (conversed_agree may.next tx.header m n (λ at granted. let parts = granted_parts tx.header.inputs at granted in agree at parts.0 parts.1));
}

-- the reason of an outcome, by the first of the cases that holds
reason_by : (first : Option Reason) (failed : Bool) (others : Outcome) (reason : Reason)
    → (others ≡ outcomes.Invalid reason → (reason ≡ TooManyRequests) ⊎ (has_own_reason (actions.Invalid reason) ≡ true))
    → outcome_by first failed others ≡ outcomes.Invalid reason
    → (first ≡ Some reason) ⊎ (((failed ≡ true) × (reason ≡ DependencyFailed))
    ⊎ ((reason ≡ TooManyRequests) ⊎ (has_own_reason (actions.Invalid reason) ≡ true)))
reason_by (Some early) failed others reason later e = let same : early ≡ reason = cc in inl (ap Some same)
reason_by None true others reason later e = inr (inl (refl, cc))
reason_by None false others reason later e = inr (inr (later e))

-- what may come of a transaction keeps to what it declares
pub access_kept : (processors : Processors) (tx : TxShape) (m : StateMap) (failed : Bool) (outcome : Outcome) → MayCome processors tx m failed outcome
    → KeepsAccess processors tx m failed outcome
access_kept processors tx m failed outcome may = record {
  inputs = λ n agree. comes_of_agreeing processors tx m n failed outcome may agree;
  outputs = λ changes events e. changes_granted (refusal processors tx) failed may.next tx.header m outcome changes events may.decided e;
  reasons = λ reason e.
      reason_by (refusal processors tx) failed (conversed may.next tx.header m) reason
      (conversed-Invalid may.next tx.header m reason may.answers.reasons) (sym may.decided ∙ e);
}
