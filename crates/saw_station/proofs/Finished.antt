-- What a run comes to is a true result of its job.
use Rattle.std.proofs.Common.{◌≡◌, ◌⊎◌, ◌∙◌, inl, Bool, true, false, List, [], Option, Some, None, Result, Ok, Err, IfOk, inr, refl, sym, ap, subst}
use Rattle.std.specs.Arc.{arc_value}
use Rattle.std.specs.Prelude.{is_some}
use Rattle.saw_address.specs.Maps.{StateMap}
use Rattle.saw_messages.specs.Reasons.{has_own_reason, is_own_reason}
use Rattle.saw_messages.specs.TxShapes.{TxShape}
use Rattle.saw_messages.specs.declared.outcome.Change.{Change}
use Rattle.saw_messages.specs.declared.outcome.Outcome.{Outcome}
use Rattle.saw_messages.specs.declared.outcome.Outcome.TheVariants as outcomes
use Rattle.saw_messages.specs.declared.outcome.Reason.{Reason}
use Rattle.saw_messages.specs.declared.outcome.Reason.TheVariants.{BadDeclared, NoProcessor, DependencyFailed, TooManyRequests, Remote, Family}
use Rattle.saw_messages.specs.declared.receipt.Event.{Event}
use Rattle.saw_messages.specs.declared.talk.Action.{Action}
use Rattle.saw_messages.specs.declared.talk.Action.TheVariants as actions
use Rattle.saw_messages.specs.declared.talk.Turn.{Turn}
use Rattle.saw_messages.specs.declared.tx.Tx.{Tx}
use Rattle.saw_messages.specs.declared.transaction.TransactionHeader.{TransactionHeader}
use Rattle.saw_context.specs.Access.{Access, no_access}
use Rattle.saw_context.specs.Outcome.{Processors, are_declared, outcome_at, refusal}
use Rattle.saw_context.specs.Possible.{MayCome}
use Rattle.saw_context.specs.SoundResults.{IsConversed, IsSound, IsSoundBy, fits_dependency}
use Rattle.saw_context.specs.Views.{Layers, layers_of, over}
use Rattle.saw_context.specs.declared.fault.ContextFault.{ContextFault}
use Rattle.saw_context.specs.declared.fault.ContextFault.TheVariants as faults
use Rattle.saw_context.specs.declared.job.Done.{Done}
use Rattle.saw_context.specs.declared.job.Job.{Job}
use Rattle.saw_context.specs.declared.reads.Read.{Read}
use Rattle.saw_context.proofs.OnTop.{seen_are_over}
use Rattle.saw_context.proofs.Sound.{sound_comes}
use Rattle.saw_station.specs.RunResults.{IsRefusal, IsResult, IsTalk, IsUnserved}
use Rattle.saw_station.specs.Serving.{built_in_own, next_by, processors_at, serving, tells_by}
use Rattle.saw_station.specs.Spoken.{IsSpoken}
use Rattle.saw_station.specs.declared.conversation.Spoken.{Spoken}
use Rattle.saw_station.specs.declared.offer.Offer.{Offer}
use Rattle.saw_station.specs.declared.serving.Served.{Served}
use Rattle.saw_station.specs.declared.serving.Served.TheVariants as served
use Rattle.saw_station.proofs.Conversed.{conversed_by_spoken}

-- ---- a conversation

refusal_none : (processors : Processors) (tx : TxShape) → are_declared tx.header ≡ true
    → processors.serves tx.header.family_name tx.header.family_version ≡ true → refusal processors tx ≡ None
refusal_none processors tx declared serves = rw (declared, serves) refl

refusal_unserved : (processors : Processors) (tx : TxShape) → are_declared tx.header ≡ true
    → processors.serves tx.header.family_name tx.header.family_version ≡ false → refusal processors tx ≡ Some NoProcessor
refusal_unserved processors tx declared serves = rw (declared, serves) refl

no_processor_fits : (failed : Bool) → fits_dependency failed (outcomes.Invalid NoProcessor) ≡ true
no_processor_fits true = refl
no_processor_fits false = refl

own_not_failed : (reason : Reason) → is_own_reason reason ≡ true → fits_dependency false (outcomes.Invalid reason) ≡ true
own_not_failed BadDeclared own = absurd cc
own_not_failed NoProcessor own = absurd cc
own_not_failed DependencyFailed own = absurd cc
own_not_failed TooManyRequests own = absurd cc
own_not_failed Remote own = refl
own_not_failed (Family number) own = refl

outcome_not_failed : (last : Action) (changes : List Change) (events : List Event) → has_own_reason last ≡ true
    → fits_dependency false (outcome_at last changes events) ≡ true
outcome_not_failed (actions.Get places) changes events own = refl
outcome_not_failed (actions.Set entries) changes events own = refl
outcome_not_failed (actions.Delete places) changes events own = refl
outcome_not_failed (actions.AddEvent event) changes events own = refl
outcome_not_failed actions.Ok changes events own = refl
outcome_not_failed (actions.Invalid reason) changes events own = own_not_failed reason own

module _ (next : TxShape → List Turn → Action) (own : (tx : TxShape) (turns : List Turn) → has_own_reason (next tx turns) ≡ true) where
  next_by_own : (tx : TxShape) (turns : List Turn) (by : Served) → has_own_reason (next_by next tx turns (Some by)) ≡ true
  next_by_own tx turns served.BuiltIn = built_in_own tx turns
  next_by_own tx turns served.Remote = own tx turns

  -- whoever serves refuses by own reasons, or nobody does
  next_own : (tx : TxShape) (turns : List Turn) (by : Option Served) → has_own_reason (next_by next tx turns by) ≡ true
  next_own tx turns (Some by) = next_by_own tx turns by
  next_own tx turns None = own tx turns

  -- the processors refuse by their own reasons
  pub processors_own : (tells : Bool) (offers : List Offer) (tx : TxShape) (turns : List Turn)
      → has_own_reason ((processors_at next tells offers).next tx turns) ≡ true
  processors_own tells offers tx turns = next_own tx turns (serving offers tx.header.family_name tx.header.family_version)

  module _ (tells : Bool) (offers : List Offer) (base : StateMap) where
    -- what was spoken with who serves it is a conversation with the processors
    spoken_conversed : (tx : TxShape) (by : Served) (layers : Layers) (turns : List Turn) (last : Action) (changes : List Change)
        (events : List Event) (reads : List Read)
        → Some by ≡ serving offers tx.header.family_name tx.header.family_version
        → IsSpoken (tells_by tells (Some by)) (λ turns. next_by next tx turns (Some by)) tx.header base layers turns last changes events reads
        → IsConversed (processors_at next tells offers) tx reads (outcome_at last changes events)
    spoken_conversed tx by layers turns last changes events reads serves spoken =
        conversed_by_spoken (processors_at next tells offers) tx base layers (tells_by tells (Some by))
        (λ turns. next_by next tx turns (Some by)) turns last changes events reads spoken
        (ap (tells_by tells) (sym serves)) (λ said. ap (next_by next tx said) serves) (λ said. next_by_own tx said by) (tells_by tells (Some by)) refl

    -- a result by a conversation
    result_by_talk : (job : Job) (by : Served) (spoken : Spoken) (done : Done) → are_declared (arc_value job.tx).header ≡ true
        → Some by ≡ serving offers (arc_value job.tx).header.family_name (arc_value job.tx).header.family_version → job.dependency_failed ≡ false
        → IsSpoken (tells_by tells (Some by)) (λ turns. next_by next (arc_value job.tx) turns (Some by)) (arc_value job.tx).header base
        (layers_of (arc_value job.view))
        spoken.talk.turns spoken.last spoken.done.changes spoken.done.events spoken.done.reads
        → IsTalk job spoken done → IsResult (processors_at next tells offers) base job done
    result_by_talk job by spoken done declared serves none_failed is talk =
        let tx : TxShape = arc_value job.tx in
        let processors : Processors = processors_at next tells offers in
        let outcome : Outcome = outcome_at spoken.last spoken.done.changes spoken.done.events in
        let conversed = spoken_conversed tx by (layers_of (arc_value job.view)) spoken.talk.turns spoken.last spoken.done.changes spoken.done.events
        spoken.done.reads serves is in
        let sound : IsSound processors tx spoken.done.reads outcome =
        subst (IsSoundBy processors tx spoken.done.reads outcome)
        (sym (refusal_none processors tx declared (ap is_some (sym serves)))) (inr conversed) in
        record {
          ticket = talk.ticket;
          sound = subst (λ (shape : TxShape). IsSound processors shape done.reads done.outcome) (sym talk.tx)
              (rw (talk.reads, talk.outcome) sound);
          agrees = record {
            tx = talk.tx;
            dependency = rw (none_failed, talk.outcome) (outcome_not_failed spoken.last spoken.done.changes spoken.done.events is.last_reason);
            seen = rw talk.reads is.seen;
          };
          of_base = rw talk.reads is.of_base;
        }

    -- the same, where the transaction and the view are known by equations
    pub talk_result : (job : Job) (by : Served) (spoken : Spoken) (done : Done) (tx : Tx) (layers : Layers) → tx ≡ arc_value job.tx
        → layers ≡ layers_of (arc_value job.view)
        → are_declared (arc_value job.tx).header ≡ true → Some by ≡ serving offers (arc_value job.tx).header.family_name
        (arc_value job.tx).header.family_version → job.dependency_failed ≡ false
        → IsSpoken (tells_by tells (Some by)) (λ turns. next_by next tx turns (Some by)) tx.header base layers spoken.talk.turns
        spoken.last spoken.done.changes spoken.done.events spoken.done.reads
        → IsTalk job spoken done → IsResult (processors_at next tells offers) base job done
    talk_result job by spoken done tx layers tx_is layers_is declared serves none_failed is talk =
        result_by_talk job by spoken done declared serves none_failed
        (subst
        (λ (t : Tx). IsSpoken (tells_by tells (Some by)) (λ turns. next_by next t turns (Some by)) t.header base
        (layers_of (arc_value job.view)) spoken.talk.turns spoken.last spoken.done.changes spoken.done.events
        spoken.done.reads)
        tx_is
        (subst
        (λ (l : Layers). IsSpoken (tells_by tells (Some by))
        (λ turns. next_by next tx turns (Some by)) tx.header base l spoken.talk.turns spoken.last spoken.done.changes
        spoken.done.events spoken.done.reads)
        layers_is is))
        talk

    -- ---- a refusal

    refused_job : (job : Job) (reason : Reason) (done : Done) → IsRefusal job reason done
        → fits_dependency job.dependency_failed (outcomes.Invalid reason) ≡ true
        → IsSound (processors_at next tells offers) (arc_value job.tx) [] (outcomes.Invalid reason)
        → IsResult (processors_at next tells offers) base job done
    refused_job job reason done refused fits sound = record {
      ticket = refused.ticket;
      sound = subst (λ (shape : TxShape). IsSound (processors_at next tells offers) shape done.reads done.outcome) (sym refused.tx)
          (rw (refused.reads, refused.outcome) sound);
      agrees = record { tx = refused.tx; dependency = rw refused.outcome fits; seen = rw refused.reads tt };
      of_base = rw refused.reads tt;
    }

    -- a result without a conversation, by who serves
    pub refused_result : (job : Job) (reason : Reason) (done : Done) (by : Option Served) → are_declared (arc_value job.tx).header ≡ true
        → serving offers (arc_value job.tx).header.family_name (arc_value job.tx).header.family_version ≡ by
        → IsUnserved by job.dependency_failed reason → IsRefusal job reason done → IsResult (processors_at next tells offers) base job done
    refused_result job reason done None declared serves why refused =
        let tx : TxShape = arc_value job.tx in
        let processors : Processors = processors_at next tells offers in
        refused_job job NoProcessor done (subst (λ (r : Reason). IsRefusal job r done) why refused) (no_processor_fits job.dependency_failed)
        (subst (IsSoundBy processors tx [] (outcomes.Invalid NoProcessor)) (sym (refusal_unserved processors tx declared (ap is_some serves)))
        (record { no_reads = refl; refused = refl }))
    refused_result job reason done (Some by) declared serves why refused =
        let tx : TxShape = arc_value job.tx in
        let processors : Processors = processors_at next tells offers in
        refused_job job DependencyFailed done (subst (λ (r : Reason). IsRefusal job r done) why.0 refused) (rw why.1 refl)
        (subst (IsSoundBy processors tx [] (outcomes.Invalid DependencyFailed)) (sym (refusal_none processors tx declared (ap is_some serves)))
        (inl (record { no_reads = refl; refused = refl })))

-- ---- the outcome

-- the outcome may come over the base with the view on top
outcome_comes : (processors : Processors) (base : StateMap) (job : Job) (done : Done)
    → ((turns : List Turn) → has_own_reason (processors.next (arc_value job.tx) turns) ≡ true) → IsResult processors base job done
    → MayCome processors (arc_value job.tx) (over base (layers_of (arc_value job.view))) job.dependency_failed done.outcome
outcome_comes processors base job done own is =
    sound_comes processors (arc_value job.tx) done.reads done.outcome
    (over base (layers_of (arc_value job.view))) job.dependency_failed own
    (subst (λ tx. IsSound processors tx done.reads done.outcome) is.agrees.tx is.sound) is.agrees.dependency
    (seen_are_over base (layers_of (arc_value job.view)) done.reads is.agrees.seen is.of_base)

-- the same, of a base that is the context's
pub outcome_in : (processors : Processors) (access : Access) (header : TransactionHeader) (base : StateMap) (layers : Layers) (job : Job) (done : Done)
    → ((turns : List Turn) → has_own_reason (processors.next (arc_value job.tx) turns) ≡ true) → access ≡ no_access header base layers
    → IsResult processors access.base job done
    → MayCome processors (arc_value job.tx) (over base (layers_of (arc_value job.view))) job.dependency_failed done.outcome
outcome_in processors access header base layers job done own new is =
    outcome_comes processors base job done own (subst (λ (b : StateMap). IsResult processors b job done) (ap (λ (a : Access). a.base) new) is)

-- what no context was made for is not declared
undeclared : (fault : ContextFault) (tx its : Tx) → tx ≡ its → fault ≡ faults.BadDeclared → (fault ≡ faults.OutOfMemory)
    ⊎ ((fault ≡ faults.BadDeclared) × (are_declared tx.header ≡ false)) → are_declared its.header ≡ false
undeclared fault tx its same is (inl memory) = absurd cc
undeclared fault tx its same is (inr bad) = ap (λ (t : Tx). are_declared t.header) (sym same) ∙ bad.1

-- it is refused before any conversation
pub undeclared_comes : (processors : Processors) (job : Job) (done : Done) (m : StateMap) (fault : ContextFault) (tx : Tx)
    → ((turns : List Turn) → has_own_reason (processors.next (arc_value job.tx) turns) ≡ true)
    → tx ≡ arc_value job.tx → fault ≡ faults.BadDeclared → (fault ≡ faults.OutOfMemory) ⊎ ((fault ≡ faults.BadDeclared) × (are_declared tx.header ≡ false))
    → IsRefusal job BadDeclared done → MayCome processors (arc_value job.tx) m job.dependency_failed done.outcome
undeclared_comes processors job done m fault tx own same is why refused = record {
  next = processors.next (arc_value job.tx);
  answers = record { reasons = own; told = λ told turns. refl };
  decided = rw (undeclared fault tx (arc_value job.tx) same is why) refused.outcome;
}

-- ---- results of calls

-- what is true of an `Ok` is true by what follows from it
pub if_ok : {T E : Type 0} (P Q : T → Type 0) → ((x : T) → P x → Q x) → (r : Result T E) → IfOk r P → IfOk r Q
if_ok P Q f (Ok x) h = f x h
if_ok P Q f (Err e) h = h
