-- How a conversation with a station goes on and ends.
use Rattle.std.proofs.Common.{◌≡◌, ◌⊎◌, inl, inr, ℕ, zero, suc, Bool, true, false, List, [], ◌∷◌, ◌++◌, map, Option, Some, None, Result, Ok, Err, IfOk, refl, sym, ap, ◌∙◌}
use Rattle.std.proofs.lemmas.Bool.{eq-eqb}
use Rattle.std.proofs.lemmas.List.{length-map, map-append}
use Rattle.std.specs.List.{AllByRecursion}
use Rattle.saw_address.specs.Maps.{StateMap}
use Rattle.saw_messages.specs.Reasons.{has_own_reason}
use Rattle.saw_messages.specs.TxShapes.{TxShape}
use Rattle.saw_messages.specs.declared.outcome.Change.{Change}
use Rattle.saw_messages.specs.declared.receipt.Event.{Event}
use Rattle.saw_messages.specs.declared.talk.Action.{Action}
use Rattle.saw_messages.specs.declared.talk.Action.TheVariants as actions
use Rattle.saw_messages.specs.declared.talk.Place.{Place}
use Rattle.saw_messages.specs.declared.talk.Reply.{Reply}
use Rattle.saw_messages.specs.declared.talk.Reply.TheVariants.{Entries, Done, Unauthorized}
use Rattle.saw_messages.specs.declared.talk.Turn.{Turn}
use Rattle.saw_messages.specs.declared.transaction.TransactionHeader.{TransactionHeader}
use Rattle.saw_context.specs.Access.{Access, access_after, map_of_access, no_access, reads_by}
use Rattle.saw_context.specs.Conversation.{Asked, Overlay, asked_by, events_after, first_refused, own_after, places_of, reply_to, seen_place, unless_refused}
use Rattle.saw_context.specs.Outcome.{Talk, after_request, changes_of, conversation, followed, is_request, max_requests}
use Rattle.saw_context.specs.SoundResults.{IsOf, IsOfBase, IsSeen, as_asked}
use Rattle.saw_context.specs.Views.{Layers}
use Rattle.saw_context.specs.declared.reads.Read.{Read}
use Rattle.saw_context.proofs.Each.{all_append}
use Rattle.saw_station.specs.Spoken.{IsSpokenBy, IsSpoken}
use Rattle.saw_station.specs.TalkSteps.{Step, Follows, IsOfLast, KeepsStep, fits}
use Rattle.saw_station.proofs.Giving.{gives_none, gives_push, gives_front, gives_last}
use Rattle.saw_station.proofs.Recorded.{asked_is, reads_of_map, reads_seen, reads_of_base}

-- ---- steps of a station

fits_unless : (places : List Place) (bodies : List (List ℕ)) (refused : Option ℕ) → fits (actions.Get places) (Entries bodies) ≡ true
    → fits (actions.Get places) (unless_refused refused Unauthorized (Entries bodies)) ≡ true
fits_unless places bodies None h = h
fits_unless places bodies (Some index) h = refl

module _ (fit : Reply → Bool) (done : fit Done ≡ true) (refuse : (index : ℕ) → fit (Unauthorized index) ≡ true) where
  fits_done : (refused : Option ℕ) → fit (unless_refused refused Unauthorized Done) ≡ true
  fits_done None = done
  fits_done (Some index) = refuse index

-- the reply to a request fits it
pub reply_fits : (header : TransactionHeader) (m : StateMap) (own : Overlay) (action : Action) → is_request action ≡ true
    → fits action (reply_to header m own action) ≡ true
reply_fits header m own (actions.Get places) is =
    fits_unless places (map (seen_place m own) places) (first_refused header.inputs places) (eq-eqb _ _ (length-map places (seen_place m own)))
reply_fits header m own (actions.Set entries) is = fits_done (fits (actions.Set entries)) refl (λ index. refl)
    (first_refused header.outputs (places_of entries))
reply_fits header m own (actions.Delete places) is = fits_done (fits (actions.Delete places)) refl (λ index. refl) (first_refused header.outputs places)
reply_fits header m own (actions.AddEvent event) is = refl
reply_fits header m own actions.Ok is = absurd cc
reply_fits header m own (actions.Invalid reason) is = absurd cc

-- the turns that a station kept, with one more
pub follows_kept : (last : Option Step) (tx : TxShape) (turns : List Turn) (action : Action) (reply : Reply) → KeepsStep last tx turns action
    → fits action reply ≡ true
    → Follows last tx (turns ++ record { action = action; reply = reply } ∷ [])
follows_kept last tx turns action reply (inl none) fit = rw none tt
follows_kept last tx turns action reply (inr some) fit = rw some (refl, (reply, fit, refl))

pub is_of_kept : (last : Option Step) (tx : TxShape) (turns : List Turn) (action : Action) → KeepsStep last tx turns action → IsOfLast last tx turns
is_of_kept last tx turns action (inl none) = rw none tt
is_of_kept last tx turns action (inr some) = rw some (refl, refl)

-- ---- the conversation so far

-- a conversation with these turns, over a context
abbrev pub talk_of : List Turn → Access → Talk
talk_of turns access = record { turns = turns; own = access.own; events = access.events; asked = map as_asked access.reads }

-- the turns after one more request
abbrev pub more_turns : List Turn → Access → Action → List Turn
more_turns turns access action = turns ++ record { action = action; reply = reply_to access.header (map_of_access access) access.own action } ∷ []

asked_more : (access : Access) (action : Action) → map as_asked (access.reads ++ reads_by access action) ≡ map as_asked access.reads
    ++ asked_by access.header access.own action
asked_more access action = map-append as_asked access.reads (reads_by access action) ∙ ap (λ more. map as_asked access.reads ++ more) (asked_is access action)

after_is : (f : List Turn → Action) (turns : List Turn) (access : Access) (action : Action)
    → after_request f access.header (map_of_access access) (talk_of turns access) action ≡ talk_of (more_turns turns access action) (access_after access action)
after_is f turns access action =
    ap (λ (asked : List Asked). record {
      turns = more_turns turns access action;
      own = own_after access.header access.own action;
      events = events_after access.events action;
      asked = asked;
    })
    (sym (asked_more access action))

module _ (f : List Turn → Action) (turns : List Turn) (access : Access) (action : Action) (is : f turns ≡ action) where
  -- one more request, of which so many more are answered
  goes_on : (left more : ℕ) → left ≡ suc more → is_request action ≡ true
      → followed f access.header (map_of_access access) left (talk_of turns access) ≡ followed f access.header (map_of_access access) more
      (talk_of (more_turns turns access action) (access_after access action))
  unfolding followed
  goes_on left more count asks = rw (count, is, asks) (ap (followed f access.header (map_of_access access) more) (after_is f turns access action))

  -- an end, however many requests would be answered
  ends : (left : ℕ) → is_request action ≡ false → followed f access.header (map_of_access access) left (talk_of turns access) ≡ talk_of turns access
  unfolding followed
  ends zero asks = refl
  ends (suc more) asks = rw (is, asks) refl

-- no more requests are answered
stops : (f : List Turn → Action) (header : TransactionHeader) (m : StateMap) (left : ℕ) (talk : Talk) → left ≡ 0 → followed f header m left talk ≡ talk
unfolding followed
stops f header m left talk none = rw none refl

-- So far these turns were spoken, over a context that came of them, and so many more requests are answered.
pub record IsSoFar (tells : Bool) (next : List Turn → Action) (header : TransactionHeader) (base : StateMap) (layers : Layers) (left : ℕ)
    (turns : List Turn) (access : Access) : Type 0 where
  pub header_is : access.header ≡ header
  pub base_is : access.base ≡ base
  pub layers_is : access.layers ≡ layers
  pub spoken : (f : List Turn → Action) → IsSpokenBy f turns
      → conversation f access.header (map_of_access access) ≡ followed f access.header (map_of_access access) left (talk_of turns access)
  pub told : tells ≡ true → IsSpokenBy next turns
  pub reasons : AllByRecursion (λ turn. has_own_reason turn.action ≡ true) turns
  pub of_map : AllByRecursion (IsOf (map_of_access access)) access.reads
  pub seen : AllByRecursion (IsSeen access.layers) access.reads
  pub of_base : AllByRecursion (IsOfBase access.base) access.reads

module _ (tells : Bool) (next : List Turn → Action) (header : TransactionHeader) (base : StateMap) (layers : Layers) where
  pub none_so_far : (access : Access) → access ≡ no_access header base layers → IsSoFar tells next header base layers max_requests [] access
  none_so_far access is = rw is (record {
    header_is = refl;
    base_is = refl;
    layers_is = refl;
    spoken = λ f gives. refl;
    told = λ _. gives_none next;
    reasons = tt;
    of_map = tt;
    seen = tt;
    of_base = tt;
  })

  module _ (turns : List Turn) (access : Access) (action : Action) (own : has_own_reason action ≡ true) (told : tells ≡ true → action ≡ next turns) where
    -- one more request is answered
    pub one_more : (left more : ℕ) → left ≡ suc more → is_request action ≡ true → IsSoFar tells next header base layers left turns access
        → IsSoFar tells next header base layers more (more_turns turns access action) (access_after access action)
    one_more left more count asks so_far = record {
      header_is = so_far.header_is;
      base_is = so_far.base_is;
      layers_is = so_far.layers_is;
      spoken = λ f gives. so_far.spoken f (gives_front f turns _ gives) ∙ goes_on f turns access action (gives_last f turns _ gives) left more count asks;
      told = λ tell. gives_push next turns _ (so_far.told tell) (sym (told tell));
      reasons = all_append _ turns _ so_far.reasons (own, tt);
      of_map = all_append _ access.reads _ so_far.of_map (reads_of_map access action);
      seen = all_append _ access.reads _ so_far.seen (reads_seen access action);
      of_base = all_append _ access.reads _ so_far.of_base (reads_of_base access action);
    }

    -- the conversation ends, or went past its last request
    pub last_of : (left : ℕ) → (is_request action ≡ false) ⊎ (left ≡ 0) → (f : List Turn → Action) → f turns ≡ action
        → followed f access.header (map_of_access access) left (talk_of turns access) ≡ talk_of turns access
    last_of left (inl asks) f is = ends f turns access action is left asks
    last_of left (inr none) f is = stops f access.header (map_of_access access) left (talk_of turns access) none

    pub spoken_whole : (left : ℕ) (changes : List Change) (events : List Event) (reads : List Read) → (is_request action ≡ false) ⊎ (left ≡ 0)
        → IsSoFar tells next header base layers left turns access
        → changes ≡ changes_of access.own → events ≡ access.events → reads ≡ access.reads
        → IsSpoken tells next header base layers turns action changes events reads
    spoken_whole left changes events reads end so_far changed added recorded = record {
      own = access.own;
      made = changed;
      spoken = λ f gives is.
          rw (← so_far.header_is, ← so_far.base_is, ← so_far.layers_is, added, recorded) (so_far.spoken f gives ∙ last_of left end f is);
      told = λ tell. (so_far.told tell, sym (told tell));
      reasons = so_far.reasons;
      last_reason = own;
      of_map = rw (recorded, ← so_far.base_is, ← so_far.layers_is) so_far.of_map;
      seen = rw (recorded, ← so_far.layers_is) so_far.seen;
      of_base = rw (recorded, ← so_far.base_is) so_far.of_base;
    }

  -- the same of the action that a step came to, behind the last request
  pub spoken_step : {E : Type 0} (turns : List Turn) (access : Access) (left : ℕ) (result : Result Action E)
      → IfOk result (λ action. has_own_reason action ≡ true) → (tells ≡ true → IfOk result (λ action. action ≡ next turns)) → left ≡ 0
      → IsSoFar tells next header base layers left turns access
      → IfOk result (λ last. IsSpoken tells next header base layers turns last (changes_of access.own) access.events access.reads)
  spoken_step turns access left (Ok action) own told none so_far =
      spoken_whole turns access action own told left (changes_of access.own) access.events access.reads (inr none) so_far refl refl refl
  spoken_step turns access left (Err fault) own told none so_far = own
