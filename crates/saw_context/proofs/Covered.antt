-- What a transaction changes: addresses that its outputs cover, in order.
use Rattle.std.proofs.Common.{◌≡◌, ℕ, Bool, true, List, [], ◌∷◌, map, Option, Some, None, refl, sym, ap, subst}
use Rattle.std.specs.Ordering.{nat_cmp}
use Rattle.std.specs.Cmp.Lexicographic.{slice_cmp}
use Rattle.std.specs.FinMap as finite
use Rattle.std.specs.List.{AllByRecursion}
use Rattle.std.specs.List.Sorted.{IsStrictlySortedBy}
use Rattle.saw_address.specs.Maps.{StateMap, is_address}
use Rattle.saw_messages.specs.TxShapes.{TxShape}
use Rattle.saw_messages.specs.declared.outcome.Change.{Change}
use Rattle.saw_messages.specs.declared.outcome.Outcome.{Outcome}
use Rattle.saw_messages.specs.declared.outcome.Outcome.TheVariants as outcomes
use Rattle.saw_messages.specs.declared.outcome.Reason.{Reason}
use Rattle.saw_messages.specs.declared.receipt.Event.{Event}
use Rattle.saw_messages.specs.declared.talk.Action.{Action}
use Rattle.saw_messages.specs.declared.talk.Action.TheVariants as actions
use Rattle.saw_messages.specs.declared.talk.Entry.{Entry}
use Rattle.saw_messages.specs.declared.talk.Place.{Place}
use Rattle.saw_messages.specs.declared.talk.Place.TheVariants.{At, Bad}
use Rattle.saw_messages.specs.declared.talk.Turn.{Turn}
use Rattle.saw_messages.specs.declared.transaction.TransactionHeader.{TransactionHeader}
use Rattle.saw_context.specs.Conversation.{Overlay, are_covering, is_granted, first_refused, unless_refused, places_of, put_at, set_all, delete_all, own_after}
use Rattle.saw_context.specs.Outcome.{Processors, Talk, no_talk, max_requests, followed, conversation, conversed, changes_of, outcome_by, outcome_of, refusal}
use Rattle.saw_context.proofs.Alike.{granted_all, granted_parts}
use Rattle.saw_context.proofs.Conversations.{followed_keeps, changes_of_decided, changes_of_outcome}
use Rattle.saw_context.proofs.Each.{all_map, all_weaker}
use Rattle.saw_context.proofs.Keys.{entries-empty, all_inserted, keys_rise}

-- ---- the addresses are covered

-- each own change is at an address that these cover
abbrev pub AreCovered : List (List ℕ) → Overlay → Type 0
AreCovered texts own = AllByRecursion (λ entry. is_granted texts (At entry.0) ≡ true) (finite.entries own)

put_at_covered : (texts : List (List ℕ)) (own : Overlay) (place : Place) (value : Option (List ℕ)) → is_granted texts place ≡ true
    → AreCovered texts own → AreCovered texts (put_at own place value)
put_at_covered texts own (At address) value granted covered = all_inserted (λ at. is_granted texts (At at) ≡ true) own address value granted covered
put_at_covered texts own Bad value granted covered = covered

set_all_covered : (texts : List (List ℕ)) (own : Overlay) (entries : List Entry)
    → AllByRecursion (λ place. is_granted texts place ≡ true) (places_of entries) → AreCovered texts own → AreCovered texts (set_all own entries)
set_all_covered texts own [] granted covered = covered
set_all_covered texts own (entry ∷ entries) granted covered =
    set_all_covered texts (put_at own entry.place (Some entry.body)) entries granted.1
    (put_at_covered texts own entry.place (Some entry.body) granted.0 covered)

delete_all_covered : (texts : List (List ℕ)) (own : Overlay) (places : List Place) → AllByRecursion (λ place. is_granted texts place ≡ true) places
    → AreCovered texts own → AreCovered texts (delete_all own places)
delete_all_covered texts own [] granted covered = covered
delete_all_covered texts own (place ∷ places) granted covered =
    delete_all_covered texts (put_at own place None) places granted.1 (put_at_covered texts own place None granted.0 covered)

unless_refused_covered : (texts : List (List ℕ)) (own after : Overlay) (refused : Option ℕ) → AreCovered texts own
    → (refused ≡ None → AreCovered texts after) → AreCovered texts (unless_refused refused (λ index. own) after)
unless_refused_covered texts own after None covered granted = granted refl
unless_refused_covered texts own after (Some index) covered granted = covered

own_after_covered : (header : TransactionHeader) (own : Overlay) (action : Action) → AreCovered header.outputs own
    → AreCovered header.outputs (own_after header own action)
own_after_covered header own (actions.Get places) covered = covered
own_after_covered header own (actions.Set entries) covered =
    unless_refused_covered header.outputs own _ (first_refused header.outputs (places_of entries)) covered
    (λ none. set_all_covered header.outputs own entries (granted_all header.outputs (places_of entries) none) covered)
own_after_covered header own (actions.Delete places) covered =
    unless_refused_covered header.outputs own _ (first_refused header.outputs places) covered
    (λ none. delete_all_covered header.outputs own places (granted_all header.outputs places none) covered)
own_after_covered header own (actions.AddEvent event) covered = covered
own_after_covered header own actions.Ok covered = covered
own_after_covered header own (actions.Invalid reason) covered = covered

-- what is changed stays covered, however many requests follow
pub own_covered : (next : List Turn → Action) (header : TransactionHeader) (m : StateMap) (limit : ℕ) (talk : Talk)
    → AreCovered header.outputs talk.own → AreCovered header.outputs (followed next header m limit talk).own
own_covered next header m limit talk covered =
    followed_keeps next header m (λ t. AreCovered header.outputs t.own) (λ t h. own_after_covered header t.own (next t.turns) h) limit talk covered

empty_covered : (texts : List (List ℕ)) → AreCovered texts finite.empty
empty_covered texts = subst (AllByRecursion (λ entry. is_granted texts (At entry.0) ≡ true)) (sym (entries-empty (Option (List ℕ)))) tt

changes_of_covered : (texts : List (List ℕ)) (own : Overlay) → AreCovered texts own
    → AllByRecursion (λ change. is_granted texts (At change.address) ≡ true) (changes_of own)
changes_of_covered texts own covered = all_map _ (λ (change : Change). is_granted texts (At change.address) ≡ true) (finite.entries own) covered

-- each change of an outcome that a conversation decides is at an address that the outputs cover
pub changes_granted : (reason : Option Reason) (failed : Bool) (next : List Turn → Action) (header : TransactionHeader) (m : StateMap)
    (outcome : Outcome) (changes : List Change) (events : List Event)
    → outcome ≡ outcome_by reason failed (conversed next header m) → outcome ≡ outcomes.Ok changes events
    → AllByRecursion (λ change. (are_covering header.outputs change.address ≡ true) × (is_address change.address ≡ true)) changes
changes_granted reason failed next header m outcome changes events is e =
    all_weaker (λ (change : Change). is_granted header.outputs (At change.address) ≡ true)
    (λ (change : Change). (are_covering header.outputs change.address ≡ true) × (is_address change.address ≡ true))
    (λ change granted. let parts = granted_parts header.outputs change.address granted in (parts.1, parts.0)) changes
    (subst (AllByRecursion (λ (change : Change). is_granted header.outputs (At change.address) ≡ true))
    (sym (changes_of_decided reason failed next header m outcome changes events is e))
    (changes_of_covered header.outputs _ (own_covered next header m max_requests no_talk (empty_covered header.outputs))))

-- each change of a transaction is at an address that its outputs cover
pub changes_covered : (processors : Processors) (tx : TxShape) (m : StateMap) (failed : Bool) (changes : List Change) (events : List Event)
    → outcome_of processors tx m failed ≡ outcomes.Ok changes events → AllByRecursion (λ change. are_covering tx.header.outputs change.address ≡ true) changes
changes_covered processors tx m failed changes events e =
    all_weaker (λ (change : Change). (are_covering tx.header.outputs change.address ≡ true) × (is_address change.address ≡ true))
    (λ (change : Change). are_covering tx.header.outputs change.address ≡ true) (λ change granted. granted.0) changes
    (changes_granted (refusal processors tx) failed (processors.next tx) tx.header m _ changes events refl e)

-- ---- the addresses rise

changed_addresses : (es : List (List ℕ × Option (List ℕ))) → map (λ (change : Change). change.address)
    (map (λ entry. record { address = entry.0; value = entry.1 }) es) ≡ map (λ entry. entry.0) es
changed_addresses [] = refl
changed_addresses (e ∷ es) = ap (λ rest. e.0 ∷ rest) (changed_addresses es)

pub changes_of_rise : (own : Overlay) → IsStrictlySortedBy (slice_cmp nat_cmp) (map (λ change. change.address) (changes_of own))
changes_of_rise own = subst (IsStrictlySortedBy (slice_cmp nat_cmp)) (sym (changed_addresses (finite.entries own))) (keys_rise own)

-- the addresses that a transaction changes strictly rise
pub changes_rise : (processors : Processors) (tx : TxShape) (m : StateMap) (failed : Bool) (changes : List Change) (events : List Event)
    → outcome_of processors tx m failed ≡ outcomes.Ok changes events → IsStrictlySortedBy (slice_cmp nat_cmp) (map (λ change. change.address) changes)
changes_rise processors tx m failed changes events e =
    subst (λ (changes : List Change). IsStrictlySortedBy (slice_cmp nat_cmp) (map (λ change. change.address) changes))
    (sym (changes_of_outcome processors tx m failed changes events e))
    (changes_of_rise (conversation (processors.next tx) tx.header m).own)
