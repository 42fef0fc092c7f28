-- What a station hears in a processor's frames.
use Rattle.std.specs.Prelude.{◌≡◌, ◌≤◌, ◌+◌, ℕ, Bool, true, List, [], length, map, get_or, nat_lt, Option, Some, None}
use Rattle.std.specs.Fmt.{decimal}
use Rattle.saw_messages.specs.declared.talk.Action.{Action}
use Rattle.saw_messages.specs.declared.talk.Action.TheVariants as actions
use Rattle.saw_link.specs.Hearing.{finish, heard, registration}
use Rattle.saw_link.specs.SentFrames.{stated}
use Rattle.saw_link.specs.declared.heard.Finish.TheVariants.{Accepted, Refused}
use Rattle.saw_link.specs.declared.heard.Heard.{Heard}
use Rattle.saw_link.specs.declared.heard.Heard.TheVariants.{Asks, Ends}
use Rattle.saw_link.specs.declared.heard.Kind.TheVariants.{Get, Set, Delete, AddEvent}
use Rattle.saw_station.specs.declared.offer.Offer.{Offer}
use Rattle.saw_tpside.specs.ProcessorFrames.{text_at, registering}
use Rattle.saw_tpside.specs.ProcessorConversation.{context_of, no_offer, number_of}
use Rattle.saw_tpside.specs.declared.serving.Open.{Open}
use Rattle.saw_tpside.specs.declared.serving.Serving.{Serving}

-- the action, asked for under this number, or the end
abbrev pub said : List ℕ → Action → Heard
said number (actions.Get places) = Asks (record { kind = Get; correlation = number; texts = map text_at places }) (actions.Get places)
said number (actions.Set entries) =
    Asks (record { kind = Set; correlation = number; texts = map (λ entry. text_at entry.place) entries }) (actions.Set entries)
said number (actions.Delete places) = Asks (record { kind = Delete; correlation = number; texts = map text_at places }) (actions.Delete places)
said number (actions.AddEvent event) = Asks (record { kind = AddEvent; correlation = number; texts = [] }) (actions.AddEvent event)
said number actions.Ok = Ends Accepted
said number (actions.Invalid reason) = Ends Refused

-- a frame that is not too long says the action
abbrev pub Says : List ℕ → List ℕ → Action → List ℕ → Type 0
Says context number action frame = (limit : ℕ) → length frame ≤ limit → heard limit context frame ≡ said number action

-- a frame that is not too long is the registration of an offer under this number
abbrev pub IsRegistration : ℕ → ℕ → Bool → Offer → List ℕ → Type 0
IsRegistration number protocol more offer frame = (limit : ℕ) → length frame ≤ limit
    → registration limit frame ≡ Some (record { correlation = decimal number; request = registering protocol more offer })

-- a frame that is not too long is the end by this status
abbrev pub IsEnd : List ℕ → ℕ → List ℕ → Type 0
IsEnd context status frame = (limit : ℕ) → length frame ≤ limit → heard limit context frame ≡ finish true (Some (record { status = status; message = [] }))

abbrev pub IsUnderstoodBy : Serving → Option Open → List ℕ → Type 0
IsUnderstoodBy p (Some current) frame = Says (context_of p) (number_of current) current.action frame
IsUnderstoodBy p None frame =
    IsRegistration (p.registered + 1) (stated p.version) (nat_lt (p.registered + 1) (length p.offers)) (get_or p.offers p.registered no_offer) frame

-- the station understands the frame that is due, if it is not too long
abbrev pub IsUnderstood : Serving → List ℕ → Type 0
IsUnderstood p frame = IsUnderstoodBy p p.current frame
