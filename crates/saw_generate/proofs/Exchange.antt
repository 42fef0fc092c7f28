-- A conversation that gets what an address has, sets it, and ends.
use Rattle.std.proofs.Common.{◌≡◌, ℕ, suc, true, false, cond, List, [], ◌∷◌, ◌++◌, map, Option, Some, None, refl, ap, ap₂, ◌∙◌}
use Rattle.std.specs.Ordering.{nat_cmp}
use Rattle.std.specs.Cmp.Lexicographic.{slice_cmp, nat_list_cmp_total}
use Rattle.std.specs.FinMap as finite
use Rattle.std.specs.FinMap.Entries.{put}
use Rattle.std.proofs.lemmas.Bool.{cond-true, cond-false}
use Rattle.saw_address.specs.Maps.{StateMap, value_at}
use Rattle.saw_messages.specs.declared.outcome.Change.{Change}
use Rattle.saw_messages.specs.declared.outcome.Outcome.TheVariants as outcomes
use Rattle.saw_messages.specs.declared.talk.Action.{Action}
use Rattle.saw_messages.specs.declared.talk.Action.TheVariants as actions
use Rattle.saw_messages.specs.declared.talk.Place.TheVariants.{At}
use Rattle.saw_messages.specs.declared.talk.Reply.{Reply}
use Rattle.saw_messages.specs.declared.talk.Reply.TheVariants.{Entries, Done, Unauthorized}
use Rattle.saw_messages.specs.declared.talk.Turn.{Turn}
use Rattle.saw_messages.specs.declared.transaction.TransactionHeader.{TransactionHeader}
use Rattle.saw_context.specs.Conversation.{Overlay, body_of, first_refused, reply_to, own_after, seen_by, seen_place, unless_refused}
use Rattle.saw_context.specs.Outcome.{Talk, no_talk, is_request, after_request, followed, conversation, conversed, changes_of, decided_by, outcome_at}
use Rattle.saw_context.proofs.Keys.{entries-empty}

-- ---- one request more, or the end

module _ (next : List Turn → Action) (header : TransactionHeader) (m : StateMap) where
  asks_more : (more : ℕ) (talk : Talk) (action : Action) → next talk.turns ≡ action → is_request action ≡ true
      → followed next header m (suc more) talk ≡ followed next header m more (after_request next header m talk action)
  unfolding followed
  asks_more more talk action is asks =
      ap (λ a. cond (is_request a) (followed next header m more (after_request next header m talk a)) talk) is
      ∙ cond-true (is_request action) (followed next header m more (after_request next header m talk action)) talk asks

  ends_here : (more : ℕ) (talk : Talk) (action : Action) → next talk.turns ≡ action → is_request action ≡ false
      → followed next header m (suc more) talk ≡ talk
  unfolding followed
  ends_here more talk action is ends =
      ap (λ a. cond (is_request a) (followed next header m more (after_request next header m talk a)) talk) is
      ∙ cond-false (is_request action) (followed next header m more (after_request next header m talk action)) talk ends

-- ---- the two requests

abbrev pub getting : List ℕ → Action
getting address = actions.Get (At address ∷ [])

abbrev pub setting : List ℕ → List ℕ → Action
setting address body = actions.Set (record { place = At address; body = body } ∷ [])

-- what is got: the bytes that the map has there
abbrev pub got : StateMap → List ℕ → Turn
got m address = record { action = getting address; reply = Entries (body_of (value_at m address) ∷ []) }

abbrev pub done : List ℕ → List ℕ → Turn
done address body = record { action = setting address body; reply = Done }

abbrev pub only_change : List ℕ → List ℕ → List Change
only_change address body = record { address = address; value = Some body } ∷ []

reply_got : (header : TransactionHeader) (m : StateMap) (address : List ℕ) → first_refused header.inputs (At address ∷ []) ≡ None
    → reply_to header m finite.empty (getting address) ≡ Entries (body_of (value_at m address) ∷ [])
reply_got header m address granted =
    ap (λ refused. unless_refused refused Unauthorized (Entries (seen_place m finite.empty (At address) ∷ []))) granted
    ∙ ap (λ own. Entries (seen_by own (value_at m address) ∷ [])) (finite.get-empty (slice_cmp nat_cmp) address)

reply_done : (header : TransactionHeader) (m : StateMap) (own : Overlay) (address body : List ℕ) → first_refused header.outputs (At address ∷ []) ≡ None
    → reply_to header m own (setting address body) ≡ Done
reply_done header m own address body granted = ap (λ refused. unless_refused refused Unauthorized Done) granted

own_done : (header : TransactionHeader) (own : Overlay) (address body : List ℕ) → first_refused header.outputs (At address ∷ []) ≡ None
    → own_after header own (setting address body) ≡ finite.insert own address (Some body)
own_done header own address body granted = ap (λ refused. unless_refused refused (λ index. own) (finite.insert own address (Some body))) granted

changes_of_one : (address body : List ℕ) → changes_of (finite.insert finite.empty address (Some body)) ≡ only_change address body
changes_of_one address body =
    ap (map (λ (entry : List ℕ × Option (List ℕ)). record { address = entry.0; value = entry.1 }))
    (finite.entries-insert nat_list_cmp_total finite.empty address (Some body)
    ∙ ap (put (slice_cmp nat_cmp) address (Some body)) (entries-empty (Option (List ℕ))))

-- ---- the whole conversation

-- a processor that asks for the address, sets it and is content
pub record IsExchange (next : List Turn → Action) (header : TransactionHeader) (m : StateMap) (address body : List ℕ) : Type 0 where
  pub gets : next [] ≡ getting address
  pub sets : next (got m address ∷ []) ≡ setting address body
  pub ends : next (got m address ∷ done address body ∷ []) ≡ actions.Ok
  pub may_get : first_refused header.inputs (At address ∷ []) ≡ None
  pub may_set : first_refused header.outputs (At address ∷ []) ≡ None

module _ (next : List Turn → Action) (header : TransactionHeader) (m : StateMap) (address body : List ℕ) (is : IsExchange next header m address body) where
  abbrev first_talk : Talk
  first_talk = after_request next header m no_talk (getting address)

  abbrev second_talk : Talk
  second_talk = after_request next header m first_talk (setting address body)

  first_turns : first_talk.turns ≡ got m address ∷ []
  first_turns = ap (λ (reply : Reply). record { action = getting address; reply = reply } ∷ []) (reply_got header m address is.may_get)

  second_turns : second_talk.turns ≡ got m address ∷ done address body ∷ []
  second_turns =
      ap₂ (λ (turns : List Turn) (reply : Reply). turns ++ record { action = setting address body; reply = reply } ∷ []) first_turns
      (reply_done header m first_talk.own address body is.may_set)

  last_action : next second_talk.turns ≡ actions.Ok
  last_action = ap next second_turns ∙ is.ends

  three_steps : (more : ℕ) → followed next header m (suc (suc (suc more))) no_talk ≡ second_talk
  three_steps more =
      asks_more next header m (suc (suc more)) no_talk (getting address) is.gets refl
      ∙ asks_more next header m (suc more) first_talk (setting address body) (ap next first_turns ∙ is.sets) refl
      ∙ ends_here next header m more second_talk actions.Ok last_action refl

  all_steps : conversation next header m ≡ second_talk
  all_steps = three_steps 997

  pub exchanged : conversed next header m ≡ outcomes.Ok (only_change address body) []
  unfolding conversed
  exchanged =
      ap (decided_by next) all_steps
      ∙ ap₂ (λ (action : Action) (own : Overlay). outcome_at action (changes_of own) []) last_action
      (own_done header finite.empty address body is.may_set)
      ∙ ap (λ changes. outcomes.Ok changes []) (changes_of_one address body)
