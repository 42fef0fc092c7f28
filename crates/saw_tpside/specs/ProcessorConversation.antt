-- The frames that spell a processor's conversation with its station, from the processor's end.
use Rattle.std.specs.Prelude.{◌≡◌, ◌⊎◌, ℕ, ◌+◌, ◌<◌, ◌≤◌, Bool, true, false, List, [], ◌∷◌, ◌++◌, length, get_or, min, Option, Some, None, option_map, ◌==◌, is_some, nat_lt, not, if◌then◌else◌}
use Rattle.std.specs.Fmt.{decimal}
use Rattle.std.specs.List.{AllByRecursion}
use Rattle.saw_context.specs.Outcome.{is_request}
use Rattle.saw_faults.specs.Counts.{last_count}
use Rattle.saw_messages.specs.TxShapes.{TxShape}
use Rattle.saw_messages.specs.declared.outcome.Reason.TheVariants.{Remote}
use Rattle.saw_messages.specs.declared.talk.Action.{Action}
use Rattle.saw_messages.specs.declared.talk.Action.TheVariants as actions
use Rattle.saw_messages.specs.declared.talk.Reply.{Reply}
use Rattle.saw_messages.specs.declared.talk.Reply.TheVariants.{Entries, Done, Unauthorized}
use Rattle.saw_messages.specs.declared.talk.Turn.{Turn}
use Rattle.saw_station.specs.Families.{family_of}
use Rattle.saw_station.specs.Serving.{built_in_next}
use Rattle.saw_station.specs.declared.offer.Offer.{Offer}
use Rattle.saw_link.specs.SentFrames.{limit_of, stated}
use Rattle.saw_link.specs.declared.passed.Passed.{Passed}
use Rattle.saw_link.specs.declared.passed.Passed.TheVariants.{Sent, Received}
use Rattle.saw_tpside.specs.ProcessorFrames.{registration_frame, action_frame}
use Rattle.saw_tpside.specs.StationFrames.{content_of, version_stated, tx_of, reply_of}
use Rattle.saw_tpside.specs.declared.serving.Open.{Open}
use Rattle.saw_tpside.specs.declared.serving.Serving.{Serving}

-- what may be registered: up to a hundred offers, each of a built-in family
pub record AreOffers (offers : List Offer) : Type 0 where
  pub some : 0 < length offers
  pub few : length offers ≤ 100
  pub built_in : AllByRecursion (λ offer. is_some (family_of offer.family offer.version) ≡ true) offers

-- the versions that may be asked for
abbrev pub IsVersion : ℕ → Type 0
IsVersion version = (version ≡ 1) ⊎ (version ≡ 2)

-- before anything was sent or received
abbrev pub starting : List Offer → ℕ → Serving
starting offers version = record { offers = offers; version = version; registered = 0; answered = 0; current = None; waits = false }

-- how long a frame may be: as on version 1 until the first registration was answered
abbrev pub limit_at : Serving → ℕ
limit_at p = if p.registered == 0 then limit_of 1 else limit_of p.version

-- the number of the transaction that is open, or of the next, in decimal
abbrev pub context_of : Serving → List ℕ
context_of p = decimal (p.answered + 1)

-- the number of an open transaction's request, in decimal
abbrev pub number_of : Open → List ℕ
number_of current = decimal (length current.talk.turns + 1)

abbrev pub no_offer : Offer
no_offer = record { family = []; version = [] }

-- whether a registration is still to be answered
abbrev pub registers : Serving → Bool
registers p = nat_lt p.registered (length p.offers)

abbrev pub registration_due : Serving → List ℕ
registration_due p =
    registration_frame (p.registered + 1) (stated p.version) (nat_lt (p.registered + 1) (length p.offers)) (get_or p.offers p.registered no_offer)

abbrev pub due_by : Serving → Option Open → Option (List ℕ)
due_by p (Some current) = Some (action_frame (context_of p) (number_of current) current.action)
due_by p None = if registers p then Some (registration_due p) else None

-- the frame that the processor is to send: its registrations first, and then the next action of an open transaction
unfoldable pub due : Serving → Option (List ℕ)
due p = if p.waits then None else due_by p p.current

abbrev pub sent_by : Serving → Option Open → Serving
sent_by p (Some current) = if is_request current.action then record p { waits = true } else record p { answered = min (p.answered + 1) last_count; current = None; waits = false }
sent_by p None = record p { waits = true }

-- how it stands once that frame was sent: a transaction that ended is answered
abbrev pub after_sent : Serving → Serving
after_sent p = sent_by p p.current

-- the version of the link by the first answer to a registration, which states the version that was asked for, or none
abbrev pub version_first : ℕ → ℕ → Option ℕ
version_first asked said = if said == stated asked then Some asked else if said == 0 then Some 1 else None

-- the same by a later one, which states what the first did
abbrev pub version_later : ℕ → ℕ → Option ℕ
version_later version said = if said == stated version then Some version else None

abbrev pub version_after : Serving → Option ℕ → Option ℕ
version_after p None = None
version_after p (Some said) = if p.registered == 0 then version_first p.version said else version_later p.version said

abbrev pub registered_by : Serving → Option ℕ → Option Serving
registered_by p None = None
registered_by p (Some version) = Some (record p { version = version; registered = p.registered + 1; waits = false })

-- the next action of the built-in families
unfoldable pub family_action : TxShape → List Turn → Action
family_action tx turns = built_in_next tx turns

abbrev pub begun_by : Serving → Option TxShape → Option Serving
begun_by p None = None
begun_by p (Some tx) =
    Some (record p { current = Some (record { tx = tx; talk = record { turns = [] }; action = family_action tx [] }); waits = false })

-- whether an event was refused
abbrev pub is_refused_event : Action → Reply → Bool
is_refused_event (actions.AddEvent event) (Unauthorized index) = true
is_refused_event (actions.AddEvent event) (Entries bodies) = false
is_refused_event (actions.AddEvent event) Done = false
is_refused_event (actions.Get places) reply = false
is_refused_event (actions.Set entries) reply = false
is_refused_event (actions.Delete places) reply = false
is_refused_event actions.Ok reply = false
is_refused_event (actions.Invalid reason) reply = false

-- the action behind a reply: that of the family; but whose event was refused ends as invalid
abbrev pub action_behind : TxShape → List Turn → Bool → Action
action_behind tx turns refused = if refused then actions.Invalid Remote else family_action tx turns

abbrev pub turns_with : Open → Reply → List Turn
turns_with current reply = current.talk.turns ++ record { action = current.action; reply = reply } ∷ []

abbrev pub open_behind : Open → Reply → Open
open_behind current reply = record {
  tx = current.tx;
  talk = record { turns = turns_with current reply };
  action = action_behind current.tx (turns_with current reply) (is_refused_event current.action reply);
}

abbrev pub replied : Serving → Open → Option Reply → Option Serving
replied p current = option_map (λ reply. record p { current = Some (open_behind current reply); waits = false })

-- what a frame replies to an open transaction that waits for an answer
unfoldable pub reply_in : Serving → Open → List ℕ → Option Reply
reply_in p current frame = if p.waits then reply_of (limit_at p) (number_of current) current.action frame else None

abbrev pub taken_by : Serving → Option Open → List ℕ → Option Serving
taken_by p (Some current) frame = replied p current (reply_in p current frame)
taken_by p None frame =
    if registers p then
    (if p.waits then registered_by p (version_after p (version_stated (content_of (limit_at p) 2 (decimal (p.registered + 1)) frame))) else None)
    else if p.waits then None
    else if not (nat_lt p.answered last_count) then None
    else begun_by p (tx_of p.version (context_of p) (content_of (limit_at p) 5 (context_of p) frame))

-- how it stands after a frame from the station; none where the frame is not legal there. A station begins no more
-- transactions than can be counted by 64 bits.
unfoldable pub taken : Serving → List ℕ → Option Serving
taken p frame = taken_by p p.current frame

-- what passed, from the processor's end: it sends each frame that is due, and takes the station's where none is
pub data Serves (start : Serving) : List Passed → Serving → Type 0 where
  none : Serves start [] start
  sends : {passed : List Passed} {p : Serving} (frame : List ℕ) → Serves start passed p → due p ≡ Some frame
      → Serves start (passed ++ Sent frame ∷ []) (after_sent p)
  takes : {passed : List Passed} {p : Serving} (frame : List ℕ) (next : Serving) → Serves start passed p → due p ≡ None → taken p frame ≡ Some next
      → Serves start (passed ++ Received frame ∷ []) next
