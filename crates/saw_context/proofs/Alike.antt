-- Two maps that agree where it counts give one conversation.
use Rattle.std.proofs.Common.{◌≡◌, ℕ, zero, suc, Bool, true, false, not, if◌then◌else◌, List, [], ◌∷◌, ◌++◌, map, Option, Some, None, is_some, refl}
use Rattle.std.proofs.Common.{ap, ap₂, ◌∙◌, arith}
use Rattle.std.specs.FinMap as finite
use Rattle.std.specs.List.{AllByRecursion}
use Rattle.std.proofs.lemmas.Bool.{and_parts, not-false}
use Rattle.saw_address.specs.Maps.{StateMap, is_address, value_at}
use Rattle.saw_messages.specs.TxShapes.{TxShape}
use Rattle.saw_messages.specs.declared.talk.Action.{Action}
use Rattle.saw_messages.specs.declared.talk.Action.TheVariants as actions
use Rattle.saw_messages.specs.declared.talk.Place.{Place}
use Rattle.saw_messages.specs.declared.talk.Place.TheVariants.{At, Bad}
use Rattle.saw_messages.specs.declared.talk.Reply.{Reply}
use Rattle.saw_messages.specs.declared.talk.Reply.TheVariants.{Entries, Unauthorized}
use Rattle.saw_messages.specs.declared.talk.Turn.{Turn}
use Rattle.saw_messages.specs.declared.transaction.TransactionHeader.{TransactionHeader}
use Rattle.saw_context.specs.Conversation.{Overlay, Asked, are_covering, is_granted, first_refused, unless_refused, asked_at, asked_by, body_of}
use Rattle.saw_context.specs.Conversation.{seen_by, seen_place, reply_to, own_after, events_after}
use Rattle.saw_context.specs.Outcome.{Processors, Talk, no_talk, max_requests, is_request, after_request, followed, conversation, conversed}
use Rattle.saw_context.specs.Outcome.{decided_by, refusal, outcome_by, outcome_of}
use Rattle.saw_context.proofs.Conversations.{followed_keeps, asked_before}
use Rattle.saw_context.proofs.Each.{all_right, all_append, all_map, all_weaker, position-None}

-- both maps have the same bytes at an address that was asked for and was not changed before
abbrev pub AreAlike : StateMap → StateMap → Asked → Type 0
AreAlike m n asked = asked.own ≡ false → body_of (value_at m asked.address) ≡ body_of (value_at n asked.address)

-- what was asked for is an address that is covered
abbrev pub IsCovered : List (List ℕ) → Asked → Type 0
IsCovered texts asked = is_granted texts (At asked.address) ≡ true

-- both maps have the same at each address that these cover
abbrev pub AgreeWhere : List (List ℕ) → StateMap → StateMap → Type 0
AgreeWhere texts m n = (at : List ℕ) → is_granted texts (At at) ≡ true → value_at m at ≡ value_at n at

-- ---- one reply

seen_by_alike : (own : Option (Option (List ℕ))) (below other : Option (List ℕ)) → (is_some own ≡ false → body_of below ≡ body_of other)
    → seen_by own below ≡ seen_by own other
seen_by_alike None below other h = h refl
seen_by_alike (Some change) below other h = refl

seen_place_alike : (m n : StateMap) (own : Overlay) (place : Place) → AreAlike m n (asked_at own place) → seen_place m own place ≡ seen_place n own place
seen_place_alike m n own (At address) h = seen_by_alike (finite.get own address) (value_at m address) (value_at n address) h
seen_place_alike m n own Bad h = refl

seen_places_alike : (m n : StateMap) (own : Overlay) (places : List Place) → AllByRecursion (AreAlike m n) (map (asked_at own) places)
    → map (seen_place m own) places ≡ map (seen_place n own) places
seen_places_alike m n own [] h = refl
seen_places_alike m n own (place ∷ places) h = ap₂ ◌∷◌ (seen_place_alike m n own place h.0) (seen_places_alike m n own places h.1)

answered_alike : (m n : StateMap) (own : Overlay) (places : List Place) (refused : Option ℕ)
    → AllByRecursion (AreAlike m n) (unless_refused refused (λ index. []) (map (asked_at own) places))
    → unless_refused refused Unauthorized (Entries (map (seen_place m own) places)) ≡ unless_refused refused Unauthorized
    (Entries (map (seen_place n own) places))
answered_alike m n own places None h = ap Entries (seen_places_alike m n own places h)
answered_alike m n own places (Some index) h = refl

reply_to_alike : (header : TransactionHeader) (m n : StateMap) (own : Overlay) (action : Action)
    → AllByRecursion (AreAlike m n) (asked_by header own action) → reply_to header m own action ≡ reply_to header n own action
reply_to_alike header m n own (actions.Get places) h = answered_alike m n own places (first_refused header.inputs places) h
reply_to_alike header m n own (actions.Set entries) h = refl
reply_to_alike header m n own (actions.Delete places) h = refl
reply_to_alike header m n own (actions.AddEvent event) h = refl
reply_to_alike header m n own actions.Ok h = refl
reply_to_alike header m n own (actions.Invalid reason) h = refl

-- ---- the conversation

after_request_alike : (next : List Turn → Action) (header : TransactionHeader) (m n : StateMap) (talk : Talk) (action : Action)
    → AllByRecursion (AreAlike m n) (asked_by header talk.own action)
    → after_request next header m talk action ≡ after_request next header n talk action
after_request_alike next header m n talk action h =
    ap
    (λ (reply : Reply). record {
      turns = talk.turns ++ record { action = action; reply = reply } ∷ [];
      own = own_after header talk.own action;
      events = events_after talk.events action;
      asked = talk.asked ++ asked_by header talk.own action;
    })
    (reply_to_alike header m n talk.own action h)

-- maps that are alike at all that the conversation over the first one asks for give one conversation
pub followed_alike : (next : List Turn → Action) (header : TransactionHeader) (m n : StateMap) (limit : ℕ) (talk : Talk)
    → AllByRecursion (AreAlike m n) (followed next header m limit talk).asked → followed next header m limit talk ≡ followed next header n limit talk
unfolding followed
followed_alike next header m n zero talk h = refl
followed_alike next header m n (suc more) talk h =
    let action : Action = next talk.turns in
    let after : Talk = after_request next header m talk action in
    elim (is_request action) as (λ b. AllByRecursion (AreAlike m n) (if b then followed next header m more after else talk).asked
    → (if b then followed next header m more after else talk) ≡ (if b then followed next header n more (after_request next header n talk action) else talk)) [
      | true ↦ λ all.
          followed_alike next header m n more after all
          ∙ ap (followed next header n more)
          (after_request_alike next header m n talk action (all_right (AreAlike m n) talk.asked _ (asked_before next header m (AreAlike m n) more after all)))
      | false ↦ λ all. refl
    ] h

pub conversed_alike : (next : List Turn → Action) (header : TransactionHeader) (m n : StateMap)
    → AllByRecursion (AreAlike m n) (conversation next header m).asked → conversed next header m ≡ conversed next header n
unfolding conversed
conversed_alike next header m n h = ap (decided_by next) (followed_alike next header m n max_requests no_talk h)

-- ---- what is asked for is covered

pub granted_all : (texts : List (List ℕ)) (places : List Place) → first_refused texts places ≡ None
    → AllByRecursion (λ place. is_granted texts place ≡ true) places
granted_all texts places none =
    all_weaker (λ place. not (is_granted texts place) ≡ false) (λ place. is_granted texts place ≡ true) (λ place h. not-false (is_granted texts place) h) places
    (position-None (λ place. not (is_granted texts place)) places none)

-- a granted address is one that is covered
pub granted_parts : (texts : List (List ℕ)) (at : List ℕ) → is_granted texts (At at) ≡ true → (is_address at ≡ true) × (are_covering texts at ≡ true)
granted_parts texts at granted = and_parts (is_address at) (are_covering texts at) granted

granted_is_covered : (texts : List (List ℕ)) (own : Overlay) (place : Place) → is_granted texts place ≡ true → IsCovered texts (asked_at own place)
granted_is_covered texts own (At address) h = h
granted_is_covered texts own Bad h = absurd (grind arith)

answered_covered : (texts : List (List ℕ)) (own : Overlay) (places : List Place) (refused : Option ℕ) → first_refused texts places ≡ refused
    → AllByRecursion (IsCovered texts) (unless_refused refused (λ index. []) (map (asked_at own) places))
answered_covered texts own places None e =
    all_map (asked_at own) (IsCovered texts) places (all_weaker (λ place. is_granted texts place ≡ true)
    (λ place. IsCovered texts (asked_at own place)) (granted_is_covered texts own) places (granted_all texts places e))
answered_covered texts own places (Some index) e = tt

asked_by_covered : (header : TransactionHeader) (own : Overlay) (action : Action) → AllByRecursion (IsCovered header.inputs) (asked_by header own action)
asked_by_covered header own (actions.Get places) = answered_covered header.inputs own places (first_refused header.inputs places) refl
asked_by_covered header own (actions.Set entries) = tt
asked_by_covered header own (actions.Delete places) = tt
asked_by_covered header own (actions.AddEvent event) = tt
asked_by_covered header own actions.Ok = tt
asked_by_covered header own (actions.Invalid reason) = tt

-- so is all that is asked for, however many requests follow
pub asked_covered : (next : List Turn → Action) (header : TransactionHeader) (m : StateMap) (limit : ℕ) (talk : Talk)
    → AllByRecursion (IsCovered header.inputs) talk.asked → AllByRecursion (IsCovered header.inputs) (followed next header m limit talk).asked
asked_covered next header m limit talk h =
    followed_keeps next header m (λ t. AllByRecursion (IsCovered header.inputs) t.asked)
    (λ t all. all_append (IsCovered header.inputs) t.asked _ all (asked_by_covered header t.own (next t.turns))) limit talk h

-- ---- maps that agree where the inputs cover

alike_where_covered : (texts : List (List ℕ)) (m n : StateMap) → AgreeWhere texts m n → (asked : Asked) → IsCovered texts asked → AreAlike m n asked
alike_where_covered texts m n agree asked covered own = ap body_of (agree asked.address covered)

-- such maps give one conversation
pub conversation_agree : (next : List Turn → Action) (header : TransactionHeader) (m n : StateMap) → AgreeWhere header.inputs m n
    → conversation next header m ≡ conversation next header n
conversation_agree next header m n agree =
    followed_alike next header m n max_requests no_talk
    (all_weaker (IsCovered header.inputs) (AreAlike m n) (alike_where_covered header.inputs m n agree) _ (asked_covered next header m max_requests no_talk tt))

pub conversed_agree : (next : List Turn → Action) (header : TransactionHeader) (m n : StateMap) → AgreeWhere header.inputs m n
    → conversed next header m ≡ conversed next header n
unfolding conversed
conversed_agree next header m n agree = ap (decided_by next) (conversation_agree next header m n agree)

-- and one outcome
pub outcome_of_agree : (processors : Processors) (tx : TxShape) (m n : StateMap) (failed : Bool)
    → ((at : List ℕ) → are_covering tx.header.inputs at ≡ true → value_at m at ≡ value_at n at)
    → outcome_of processors tx m failed ≡ outcome_of processors tx n failed
outcome_of_agree processors tx m n failed agree =
    ap (outcome_by (refusal processors tx) failed) (conversed_agree (processors.next tx) tx.header m n
    (λ at granted. agree at (granted_parts tx.header.inputs at granted).1))
