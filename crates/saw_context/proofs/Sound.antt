-- A true result is the outcome over each map that has what it was told.
use Rattle.std.proofs.Common.{◌≡◌, Bool, true, false, List, map, Option, Some, None, inl, inr, refl, sym, ap, subst, ◌∙◌, arith}
use Rattle.std.specs.List.{AllByRecursion}
use Rattle.std.proofs.lemmas.Bool.{both_ways}
use Rattle.saw_address.specs.Maps.{StateMap}
use Rattle.saw_messages.specs.Reasons.{has_own_reason}
use Rattle.saw_messages.specs.TxShapes.{TxShape}
use Rattle.saw_messages.specs.declared.outcome.Outcome.{Outcome}
use Rattle.saw_messages.specs.declared.outcome.Outcome.TheVariants as outcomes
use Rattle.saw_messages.specs.declared.outcome.Reason.{Reason}
use Rattle.saw_messages.specs.declared.outcome.Reason.TheVariants.{DependencyFailed}
use Rattle.saw_messages.specs.declared.talk.Action.{Action}
use Rattle.saw_messages.specs.declared.talk.Turn.{Turn}
use Rattle.saw_context.specs.Outcome.{Processors, conversed, refusal, outcome_by, outcome_of}
use Rattle.saw_context.specs.Possible.{MayCome, is_told}
use Rattle.saw_context.specs.SoundResults.{AnswersFor, IsConversed, IsOf, IsSound, IsSoundBy, as_asked, fits_dependency, is_early, recorded}
use Rattle.saw_context.specs.declared.reads.Read.{Read}
use Rattle.saw_context.proofs.Alike.{AreAlike, conversed_alike}
use Rattle.saw_context.proofs.Conversations.{conversed-next, conversed_is_late}
use Rattle.saw_context.proofs.Each.{all_map, all_both}

reads_are_alike : (m n : StateMap) (reads : List Read) → AllByRecursion (IsOf m) reads → AllByRecursion (IsOf n) reads
    → AllByRecursion (AreAlike m n) (map as_asked reads)
reads_are_alike m n reads h k =
    all_map as_asked (AreAlike m n) reads (all_both (IsOf m) (IsOf n) (λ read. AreAlike m n (as_asked read)) (λ read p q own. p own ∙ sym (q own)) reads h k)

-- a conversation with the recorded reads is the conversation with a map that has them
conversed_over : (processors : Processors) (tx : TxShape) (reads : List Read) (outcome : Outcome) (m : StateMap)
    (is : IsConversed processors tx reads outcome)
    → AllByRecursion (IsOf m) reads → outcome ≡ conversed is.next tx.header m
conversed_over processors tx reads outcome m is has =
    is.decided
    ∙ conversed_alike is.next tx.header (recorded reads) m (subst (AllByRecursion (AreAlike (recorded reads) m)) is.asked
    (reads_are_alike (recorded reads) m reads is.alike has))

-- the outcome of a conversation comes by no reason before it
pub conversed_not_early : (processors : Processors) (tx : TxShape) (reads : List Read) (outcome : Outcome)
    → IsConversed processors tx reads outcome → is_early outcome ≡ false
conversed_not_early processors tx reads outcome is = ap is_early is.decided ∙ conversed_is_late is.next tx.header (recorded reads) is.answers.reasons

dependency_failed : (failed : Bool) (outcome others : Outcome) → outcome ≡ outcomes.Invalid DependencyFailed → fits_dependency failed outcome ≡ true
    → outcome ≡ outcome_by None failed others
dependency_failed true outcome others is fits = is
dependency_failed false outcome others is fits = let never : false ≡ true = sym (ap (fits_dependency false) is) ∙ fits in absurd (grind arith)

none_failed : (failed : Bool) (outcome others : Outcome) → outcome ≡ others → is_early outcome ≡ false → fits_dependency failed outcome ≡ true
    → outcome ≡ outcome_by None failed others
none_failed true outcome others is late fits = absurd (both_ways (is_early outcome) late fits)
none_failed false outcome others is late fits = is

-- a true result is decided by a conversation with the processors' own function, or with one that answers for them
decided_by_one : (processors : Processors) (tx : TxShape) (reads : List Read) (outcome : Outcome) (m : StateMap) (failed : Bool)
    (reason : Option Reason) (P : (List Turn → Action) → Type 0)
    → P (processors.next tx) → ((next : List Turn → Action) → AnswersFor processors tx next → P next)
    → IsSoundBy processors tx reads outcome reason → fits_dependency failed outcome ≡ true → AllByRecursion (IsOf m) reads
    → (next : List Turn → Action) × P next × (outcome ≡ outcome_by reason failed (conversed next tx.header m))
decided_by_one processors tx reads outcome m failed (Some reason) P its answers sound fits has = (processors.next tx, its, sound.refused)
decided_by_one processors tx reads outcome m failed None P its answers (inl refused) fits has =
    (processors.next tx, its, dependency_failed failed outcome _ refused.refused fits)
decided_by_one processors tx reads outcome m failed None P its answers (inr is) fits has = (
  is.next,
  answers is.next is.answers,
  none_failed failed outcome _ (conversed_over processors tx reads outcome m is has)
      (conversed_not_early processors tx reads outcome is) fits,
)

-- a true result whose recorded reads are what a map gives may come over that map
pub sound_comes : (processors : Processors) (tx : TxShape) (reads : List Read) (outcome : Outcome) (m : StateMap) (failed : Bool)
    → ((said : List Turn) → has_own_reason (processors.next tx said) ≡ true) → IsSound processors tx reads outcome
    → fits_dependency failed outcome ≡ true → AllByRecursion (IsOf m) reads
    → MayCome processors tx m failed outcome
sound_comes processors tx reads outcome m failed own sound fits has =
    let one =
    decided_by_one processors tx reads outcome m failed (refusal processors tx) (AnswersFor processors tx)
    (record { reasons = own; told = λ told said. refl }) (λ next answers. answers) sound fits has in
    record { next = one.0; answers = one.1; decided = one.2 }

-- and it has the outcome over that map, where the processor is told
pub sound_outcome : (processors : Processors) (tx : TxShape) (reads : List Read) (outcome : Outcome) (m : StateMap) (failed : Bool)
    → IsSound processors tx reads outcome → is_told processors tx ≡ true → fits_dependency failed outcome ≡ true → AllByRecursion (IsOf m) reads
    → outcome ≡ outcome_of processors tx m failed
sound_outcome processors tx reads outcome m failed sound told fits has =
    let one =
    decided_by_one processors tx reads outcome m failed (refusal processors tx)
    (λ next. (said : List Turn) → next said ≡ processors.next tx said) (λ said. refl) (λ next answers. answers.told told) sound fits has in
    one.2 ∙ ap (outcome_by (refusal processors tx) failed) (conversed-next one.0 (processors.next tx) tx.header m one.1)
