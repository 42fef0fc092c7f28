-- What a conversation comes to, whatever the map.
use Rattle.std.proofs.Common.{◌≡◌, ◌⊎◌, inl, inr, ℕ, zero, suc, Bool, true, false, if◌then◌else◌, List, Option, Some, None, refl, sym, ap, ◌∙◌, arith}
use Rattle.std.proofs.Math.Path.{fun_ext}
use Rattle.std.specs.List.{AllByRecursion}
use Rattle.saw_address.specs.Maps.{StateMap}
use Rattle.saw_messages.specs.TxShapes.{TxShape}
use Rattle.saw_messages.specs.declared.outcome.Change.{Change}
use Rattle.saw_messages.specs.declared.outcome.Outcome.{Outcome}
use Rattle.saw_messages.specs.declared.outcome.Outcome.TheVariants as outcomes
use Rattle.saw_messages.specs.declared.outcome.Reason.{Reason}
use Rattle.saw_messages.specs.declared.outcome.Reason.TheVariants.{BadDeclared, NoProcessor, DependencyFailed, TooManyRequests, Remote, Family}
use Rattle.saw_messages.specs.declared.receipt.Event.{Event}
use Rattle.saw_messages.specs.declared.talk.Action.{Action}
use Rattle.saw_messages.specs.declared.talk.Action.TheVariants as actions
use Rattle.saw_messages.specs.declared.talk.Turn.{Turn}
use Rattle.saw_messages.specs.declared.transaction.TransactionHeader.{TransactionHeader}
use Rattle.saw_context.specs.Conversation.{Asked, asked_by}
use Rattle.saw_context.specs.Outcome.{Processors, Talk, is_request, after_request, followed, conversation, conversed, decided, changes_of, refusal}
use Rattle.saw_context.specs.Outcome.{outcome_by, outcome_of}
use Rattle.saw_context.specs.SoundResults.{is_early}
use Rattle.saw_messages.specs.Reasons.{has_own_reason, is_own_reason}
use Rattle.saw_context.proofs.Each.{all_left}

-- what each request keeps is kept by as many as there are
pub followed_keeps : (next : List Turn → Action) (header : TransactionHeader) (m : StateMap) (Q : Talk → Type 0)
    → ((talk : Talk) → Q talk → Q (after_request next header m talk (next talk.turns)))
    → (limit : ℕ) (talk : Talk) → Q talk → Q (followed next header m limit talk)
unfolding followed
followed_keeps next header m Q step zero talk q = q
followed_keeps next header m Q step (suc more) talk q =
    elim (is_request (next talk.turns)) as (λ b. Q (if b then followed next header m more (after_request next header m talk (next talk.turns)) else talk)) [
      | true ↦ followed_keeps next header m Q step more (after_request next header m talk (next talk.turns)) (step talk q)
      | false ↦ q
    ]

-- what is asked from here on stands behind what was asked before
pub asked_before : (next : List Turn → Action) (header : TransactionHeader) (m : StateMap) (P : Asked → Type 0) (limit : ℕ) (talk : Talk)
    → AllByRecursion P (followed next header m limit talk).asked → AllByRecursion P talk.asked
asked_before next header m P limit talk =
    followed_keeps next header m (λ t. AllByRecursion P t.asked → AllByRecursion P talk.asked)
    (λ t h all. h (all_left P t.asked (asked_by header t.own (next t.turns)) all)) limit talk (λ all. all)

-- what answers alike everywhere gives one outcome
pub conversed-next : (next other : List Turn → Action) (header : TransactionHeader) (m : StateMap) → ((turns : List Turn) → next turns ≡ other turns)
    → conversed next header m ≡ conversed other header m
conversed-next next other header m h = ap (λ next. conversed next header m) (fun_ext h)

-- ---- reasons

own_is_late : (reason : Reason) → is_own_reason reason ≡ true → is_early (outcomes.Invalid reason) ≡ false
own_is_late BadDeclared h = absurd (grind arith)
own_is_late NoProcessor h = absurd (grind arith)
own_is_late DependencyFailed h = absurd (grind arith)
own_is_late TooManyRequests h = refl
own_is_late Remote h = refl
own_is_late (Family number) h = refl

decided_is_late : (talk : Talk) (action : Action) → has_own_reason action ≡ true → is_early (decided talk action) ≡ false
decided_is_late talk (actions.Get places) h = refl
decided_is_late talk (actions.Set entries) h = refl
decided_is_late talk (actions.Delete places) h = refl
decided_is_late talk (actions.AddEvent event) h = refl
decided_is_late talk actions.Ok h = refl
decided_is_late talk (actions.Invalid reason) h = own_is_late reason h

-- a conversation ends by no reason that comes before it
pub conversed_is_late : (next : List Turn → Action) (header : TransactionHeader) (m : StateMap)
    → ((turns : List Turn) → has_own_reason (next turns) ≡ true) → is_early (conversed next header m) ≡ false
unfolding conversed
conversed_is_late next header m own =
    decided_is_late (conversation next header m) (next (conversation next header m).turns) (own (conversation next header m).turns)

-- ---- changes

decided-Ok : (talk : Talk) (action : Action) (changes : List Change) (events : List Event) → decided talk action ≡ outcomes.Ok changes events
    → changes ≡ changes_of talk.own
decided-Ok talk (actions.Get places) changes events e = absurd (grind arith)
decided-Ok talk (actions.Set entries) changes events e = absurd (grind arith)
decided-Ok talk (actions.Delete places) changes events e = absurd (grind arith)
decided-Ok talk (actions.AddEvent event) changes events e = absurd (grind arith)
decided-Ok talk actions.Ok changes events e = cc
decided-Ok talk (actions.Invalid reason) changes events e = absurd (grind arith)

conversed-Ok : (next : List Turn → Action) (header : TransactionHeader) (m : StateMap) (changes : List Change) (events : List Event)
    → conversed next header m ≡ outcomes.Ok changes events
    → changes ≡ changes_of (conversation next header m).own
unfolding conversed
conversed-Ok next header m changes events e = decided-Ok (conversation next header m) (next (conversation next header m).turns) changes events e

outcome_by-Ok : (reason : Option Reason) (failed : Bool) (others : Outcome) (changes : List Change) (events : List Event)
    → outcome_by reason failed others ≡ outcomes.Ok changes events → others ≡ outcomes.Ok changes events
outcome_by-Ok (Some reason) failed others changes events e = absurd (grind arith)
outcome_by-Ok None true others changes events e = absurd (grind arith)
outcome_by-Ok None false others changes events e = e

-- the changes of an outcome that a conversation decides are those of the conversation
pub changes_of_decided : (reason : Option Reason) (failed : Bool) (next : List Turn → Action) (header : TransactionHeader) (m : StateMap)
    (outcome : Outcome) (changes : List Change) (events : List Event)
    → outcome ≡ outcome_by reason failed (conversed next header m) → outcome ≡ outcomes.Ok changes events
    → changes ≡ changes_of (conversation next header m).own
changes_of_decided reason failed next header m outcome changes events is e =
    conversed-Ok next header m changes events (outcome_by-Ok reason failed _ changes events (sym is ∙ e))

-- the changes of a transaction are those of its conversation
pub changes_of_outcome : (processors : Processors) (tx : TxShape) (m : StateMap) (failed : Bool) (changes : List Change) (events : List Event)
    → outcome_of processors tx m failed ≡ outcomes.Ok changes events → changes ≡ changes_of (conversation (processors.next tx) tx.header m).own
changes_of_outcome processors tx m failed changes events e =
    changes_of_decided (refusal processors tx) failed (processors.next tx) tx.header m _ changes events refl e

-- ---- reasons of outcomes

-- an action that refuses by an own reason decides that one, or that there was one request too many
decided-Invalid : (talk : Talk) (action : Action) (reason : Reason) → has_own_reason action ≡ true → decided talk action ≡ outcomes.Invalid reason
    → (reason ≡ TooManyRequests) ⊎ (has_own_reason (actions.Invalid reason) ≡ true)
decided-Invalid talk (actions.Get places) reason own e = inl cc
decided-Invalid talk (actions.Set entries) reason own e = inl cc
decided-Invalid talk (actions.Delete places) reason own e = inl cc
decided-Invalid talk (actions.AddEvent event) reason own e = inl cc
decided-Invalid talk actions.Ok reason own e = absurd cc
decided-Invalid talk (actions.Invalid other) reason own e = let same : other ≡ reason = cc in inr (ap is_own_reason (sym same) ∙ own)

-- so does a whole conversation
pub conversed-Invalid : (next : List Turn → Action) (header : TransactionHeader) (m : StateMap) (reason : Reason)
    → ((turns : List Turn) → has_own_reason (next turns) ≡ true) → conversed next header m ≡ outcomes.Invalid reason
    → (reason ≡ TooManyRequests) ⊎ (has_own_reason (actions.Invalid reason) ≡ true)
unfolding conversed
conversed-Invalid next header m reason own e = decided-Invalid (conversation next header m) (next (conversation next header m).turns) reason
    (own (conversation next header m).turns) e
