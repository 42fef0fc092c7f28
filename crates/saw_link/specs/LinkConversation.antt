-- The frames that spell the conversations of a station with its peer.
use Rattle.std.specs.Prelude.{◌≡◌, ◌≤◌, ℕ, ◌+◌, length, ◌-◌, Bool, true, false, List, [], ◌∷◌, ◌++◌, Option, Some, None, ◌==◌, is_some, nat_le, if◌then◌else◌}
use Rattle.std.specs.Fmt.{decimal}
use Rattle.std.specs.List.{AllByRecursion}
use Rattle.saw_messages.specs.TxShapes.{TxShape, shape_in}
use Rattle.saw_messages.specs.declared.outcome.Reason.TheVariants.{Remote}
use Rattle.saw_messages.specs.declared.talk.Action.{Action}
use Rattle.saw_messages.specs.declared.talk.Action.TheVariants as actions
use Rattle.saw_messages.specs.declared.talk.Reply.{Reply}
use Rattle.saw_messages.specs.declared.talk.Reply.TheVariants.{Unauthorized}
use Rattle.saw_messages.specs.declared.talk.Turn.{Turn}
use Rattle.saw_messages.specs.declared.transaction.Transaction.{Transaction}
use Rattle.saw_station.specs.TalkSteps.{fits}
use Rattle.saw_link.specs.declared.heard.Asked.{Asked}
use Rattle.saw_link.specs.declared.heard.Finish.{Finish}
use Rattle.saw_link.specs.declared.heard.Finish.TheVariants.{Accepted, Refused, Broken}
use Rattle.saw_link.specs.declared.heard.Heard.{Heard}
use Rattle.saw_link.specs.declared.heard.Heard.TheVariants.{Asks, Ends, Breach}
use Rattle.saw_link.specs.declared.heard.Registration.{Registration}
use Rattle.saw_link.specs.declared.standing.LastStep.{LastStep}
use Rattle.saw_link.specs.declared.standing.Standing.{Standing}
use Rattle.saw_link.specs.Hearing.{heard, registration}
use Rattle.saw_link.specs.declared.passed.Passed.{Passed}
use Rattle.saw_link.specs.declared.passed.Passed.TheVariants.{Sent, Received, Ended}
use Rattle.saw_link.specs.Tells.{Adds}
use Rattle.saw_link.specs.SentFrames.{answer, limit_of, process_request, welcome}

-- before anything was sent or received
abbrev pub fresh : Standing
fresh = record { version = 1; more = true; registrations = 0; offers = []; count = 0; last = None; asked = None; refused = 0 }

-- what a station does, each time until the peer's next frame: it waits for a registration, begins a transaction, answers
-- a request, or refuses one to end a conversation
pub data Move : Type 0 where
  Registers : Move
  Begins : Transaction → Move
  Answers : Reply → Move
  Refuses : Move

-- the version that a registration stands for
abbrev pub version_by : ℕ → ℕ
version_by protocol = if nat_le 2 protocol then 2 else 1

abbrev pub registered_by : Standing → Registration → ℕ → Option Standing
registered_by s r version = Some (record s {
  version = version;
  more = r.request.more;
  registrations = s.registrations + 1;
  offers = s.offers ++ record { family = r.request.family; version = r.request.version } ∷ [];
})

-- the first registration fixes the version; a later one for another version is not legal, nor is one past the hundredth
abbrev pub may_register : Standing → ℕ → Bool
may_register s version = if s.registrations == 0 then true else if nat_le 100 s.registrations then false else version == s.version

abbrev pub registered : Standing → Option Registration → Option Standing
registered s None = None
registered s (Some r) = if may_register s (version_by r.request.protocol_version) then registered_by s r (version_by r.request.protocol_version) else None

abbrev pub ending : Finish → Option Action
ending Accepted = Some actions.Ok
ending Refused = Some (actions.Invalid Remote)
ending Broken = None

abbrev pub acted_by : Standing → Transaction → List Turn → ℕ → Option Asked → Option Action → Option Standing
acted_by s tx turns count asked None = None
acted_by s tx turns count asked (Some action) =
    Some (record s { count = count; last = Some (record { tx = tx; turns = turns; action = action }); asked = asked; refused = 0 })

-- the peer's next action after these turns of a transaction
abbrev pub acted : Standing → Transaction → List Turn → ℕ → Heard → Option Standing
acted s tx turns count (Asks asked action) = acted_by s tx turns count (Some asked) (Some action)
acted s tx turns count (Ends finish) = acted_by s tx turns count None (ending finish)
acted s tx turns count Breach = None

abbrev pub answered : Standing → Option LastStep → Reply → Heard → Option Standing
answered s None reply heard = None
answered s (Some last) reply heard = acted s last.tx (last.turns ++ record { action = last.action; reply = reply } ∷ []) s.count heard

-- a request after the thousandth refusal is not legal
abbrev pub closed : Standing → Heard → Option Standing
closed s (Asks asked action) = if nat_le 1000 (s.refused + 1) then None else Some (record s { asked = Some asked; refused = s.refused + 1 })
closed s (Ends finish) = Some (record s { asked = None; refused = 0 })
closed s Breach = None

-- how the link stands after the peer's frame; none where the frame is not legal there, or the peer says that it broke
unfoldable pub after : Standing → Move → List ℕ → Option Standing
after s Registers frame = registered s (registration (limit_of s.version) frame)
after s (Begins tx) frame = acted s tx [] (s.count + 1) (heard (limit_of s.version) (decimal (s.count + 1)) frame)
after s (Answers reply) frame = answered s s.last reply (heard (limit_of s.version) (decimal s.count) frame)
after s Refuses frame = closed s (heard (limit_of s.version) (decimal s.count) frame)

abbrev pub answer_sent : Option Asked → Reply → List Passed
answer_sent None reply = []
answer_sent (Some asked) reply = Sent (answer asked reply) ∷ []

-- what the station sends before the peer's frame
abbrev pub sent_before : Standing → Move → List Passed
sent_before s Registers = []
sent_before s (Begins tx) = Sent (process_request s.version (decimal (s.count + 1)) tx) ∷ []
sent_before s (Answers reply) = answer_sent s.asked reply
sent_before s Refuses = answer_sent s.asked (Unauthorized 0)

abbrev pub welcomed : ℕ → Option Registration → List Passed
welcomed version None = []
welcomed version (Some r) = Sent (welcome version r.correlation) ∷ []

-- what it sends behind it, on the link's version by then
abbrev pub sent_behind : Standing → Move → List ℕ → Standing → List Passed
sent_behind s Registers frame next = welcomed next.version (registration (limit_of s.version) frame)
sent_behind s (Begins tx) frame next = []
sent_behind s (Answers reply) frame next = []
sent_behind s Refuses frame next = []

-- all that passes with a move
abbrev pub exchanged : Standing → Move → List ℕ → Standing → List Passed
exchanged s move frame next = sent_before s move ++ Received frame ∷ sent_behind s move frame next

-- each frame that is sent has at most so many bytes
abbrev pub AreWithin : ℕ → List Passed → Type 0
AreWithin limit [] = Unit {0}
AreWithin limit (Sent frame ∷ passed) = (length frame ≤ limit) × AreWithin limit passed
AreWithin limit (Received frame ∷ passed) = AreWithin limit passed
AreWithin limit (Ended ∷ passed) = AreWithin limit passed

-- what the station sends with a move is no longer than the version before it allows: so the answer to the first
-- registration is no longer than version 1 allows, since its peer does not know the version yet
abbrev pub IsWithin : Standing → Move → List ℕ → Standing → Type 0
IsWithin s move frame next = AreWithin (limit_of s.version) (sent_before s move) × AreWithin (limit_of s.version) (sent_behind s move frame next)

abbrev pub FitsLast : Option LastStep → Reply → Type 0
FitsLast None reply = ⊥
FitsLast (Some last) reply = fits last.action reply ≡ true

-- when a move may be made: registrations come first; a transaction begins where none is open; a request is answered by a
-- reply that fits it, and by refusals alone once one was refused to end the conversation
abbrev pub IsDue : Standing → Move → Type 0
IsDue s Registers = s.more ≡ true
IsDue s (Begins tx) = (s.more ≡ false) × (s.asked ≡ None)
IsDue s (Answers reply) = (s.refused ≡ 0) × (is_some s.asked ≡ true) × FitsLast s.last reply
IsDue s Refuses = is_some s.asked ≡ true

-- what passed spells these moves: from this standing they lead to that one
pub data Spells (start : Standing) : List Move → List Passed → Standing → Type 0 where
  none : Spells start [] [] start
  more : {moves : List Move} {passed : List Passed} {before : Standing} (move : Move) (frame : List ℕ) (next : Standing)
      → Spells start moves passed before → IsDue before move → after before move frame ≡ Some next → IsWithin before move frame next
      → Spells start (moves ++ move ∷ []) (passed ++ exchanged before move frame next) next

abbrev pub IsActOf : (TxShape → List Turn → Action) → Option LastStep → Type 0
IsActOf next None = Unit {0}
IsActOf next (Some last) = last.action ≡ next (shape_in last.tx) last.turns

-- the last action is the peer's own
abbrev pub IsAct : (TxShape → List Turn → Action) → Move → Standing → Type 0
IsAct next Registers s = Unit {0}
IsAct next (Begins tx) s = IsActOf next s.last
IsAct next (Answers reply) s = IsActOf next s.last
IsAct next Refuses s = Unit {0}

-- the frame is legal here, and the action after it is the peer's own
pub record IsNext (next : TxShape → List Turn → Action) (s : Standing) (move : Move) (frame : List ℕ) : Type 0 where
  pub then_it : Standing
  pub legal : after s move frame ≡ Some then_it
  pub acts : IsActOf next then_it.last

-- A frame that a peer whose actions are these may send at this place. A peer cannot tell a refusal that ends a conversation
-- from one that answers a request, so its actions are not asked of it there. But a peer that is told knows how many refusals
-- came, so a frame that is not legal there, as a request after the thousandth, is none of its own.
abbrev pub IsAllowed : (TxShape → List Turn → Action) → Standing → Move → List ℕ → Type 0
IsAllowed next s Registers frame = after s Registers frame ≡ None → ⊥
IsAllowed next s (Begins tx) frame = IsNext next s (Begins tx) frame
IsAllowed next s (Answers reply) frame = IsNext next s (Answers reply) frame
IsAllowed next s Refuses frame = after s Refuses frame ≡ None → ⊥

-- the frame that came next after what had passed is allowed, where that spelled a conversation up to it and what the
-- station sent last is not too long
abbrev pub Obeys : (TxShape → List Turn → Action) → Option (List Passed) → List ℕ → Type 0
Obeys next told frame = (moves : List Move) (passed : List Passed) (s : Standing) (move : Move)
    → Spells fresh moves passed s → IsDue s move → AreWithin (limit_of s.version) (sent_before s move) → told ≡ Some (passed ++ sent_before s move)
    → IsAllowed next s move frame

-- the same where this frame was sent last
abbrev pub ObeysAfter : (TxShape → List Turn → Action) → Option (List Passed) → List ℕ → List ℕ → Type 0
ObeysAfter next told sent frame = (moves : List Move) (passed : List Passed) (s : Standing) (move : Move)
    → Spells fresh moves passed s → IsDue s move → told ≡ Some passed → sent_before s move ≡ Sent sent ∷ [] → length sent ≤ limit_of s.version
    → IsAllowed next s move frame

-- what a link tells spells some moves up to this standing
abbrev pub IsSpelled : Option (List Passed) → Standing → Type 0
IsSpelled None s = Unit {0}
IsSpelled (Some passed) s = (moves : List Move) × Spells fresh moves passed s

-- one move, as the link tells it
pub record Moved (told : Option (List Passed)) (s : Standing) (move : Move) (later : Option (List Passed)) (next : Standing) : Type 0 where
  pub frame : List ℕ
  pub due : IsDue s move
  pub legal : after s move frame ≡ Some next
  pub within : IsWithin s move frame next
  pub adds : Adds told (exchanged s move frame next) later

-- several moves, as the link tells them
pub record Ran (told : Option (List Passed)) (s : Standing) (moves : List Move) (later : Option (List Passed)) (next : Standing) : Type 0 where
  pub passed : List Passed
  pub spells : Spells s moves passed next
  pub adds : Adds told passed later

-- some refusals, and none where no request waits
pub record Closed (told : Option (List Passed)) (s : Standing) (later : Option (List Passed)) (next : Standing) : Type 0 where
  pub moves : List Move
  pub refuses : AllByRecursion (λ move. move ≡ Refuses) moves
  pub ran : Ran told s moves later next
  pub done : next.asked ≡ None

-- some registrations, until none is due
pub record Registered (told : Option (List Passed)) (s : Standing) (later : Option (List Passed)) (next : Standing) : Type 0 where
  pub moves : List Move
  pub registers : AllByRecursion (λ move. move ≡ Registers) moves
  pub ran : Ran told s moves later next
  pub done : next.more ≡ false

-- a conversation that was open is ended, and one begins
pub record Began (told : Option (List Passed)) (s : Standing) (tx : Transaction) (later : Option (List Passed)) (next : Standing) : Type 0 where
  pub told_between : Option (List Passed)
  pub between : Standing
  pub closed_it : Closed told s told_between between
  pub moved : Moved told_between between (Begins tx) later next

-- how many answers may follow, and whether any does
abbrev pub left_by : Option Asked → ℕ → ℕ
left_by None refused = 0
left_by (Some asked) refused = 1001 - refused + 1
