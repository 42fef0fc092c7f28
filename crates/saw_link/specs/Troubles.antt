-- Why a move did not come to its end, and what passed of it.
use Rattle.std.specs.Prelude.{◌≡◌, ◌⊎◌, ◌<◌, ◌≤◌, ◌+◌, ◌^◌, ℕ, List, [], ◌∷◌, ◌++◌, Option, Some, None, length}
use Rattle.std.specs.Fmt.{decimal}
use Rattle.std.specs.List.{AllByRecursion}
use Rattle.saw_messages.specs.declared.talk.Reply.{Reply}
use Rattle.saw_messages.specs.declared.transaction.Transaction.{Transaction}
use Rattle.saw_link.specs.Hearing.{heard, registration}
use Rattle.saw_link.specs.LinkConversation.{Move, Registers, Begins, Answers, Refuses, AreWithin, IsDue, Ran, after, registered, sent_before, sent_behind}
use Rattle.saw_link.specs.declared.passed.Passed.{Passed}
use Rattle.saw_link.specs.declared.passed.Passed.TheVariants.{Sent, Received, Ended}
use Rattle.saw_link.specs.Tells.{Adds}
use Rattle.saw_link.specs.SentFrames.{limit_of}
use Rattle.saw_link.specs.declared.fault.LinkFault.{LinkFault}
use Rattle.saw_link.specs.declared.fault.LinkFault.TheVariants as links
use Rattle.saw_link.specs.declared.exchange.Trouble.{Trouble}
use Rattle.saw_link.specs.declared.exchange.Trouble.TheVariants as troubles
use Rattle.saw_link.specs.declared.heard.Finish.TheVariants.{Accepted, Refused, Broken}
use Rattle.saw_link.specs.declared.heard.Heard.{Heard}
use Rattle.saw_link.specs.declared.heard.Heard.TheVariants.{Asks, Ends, Breach}
use Rattle.saw_link.specs.declared.standing.Standing.{Standing}

abbrev pub of_link : LinkFault → Trouble
of_link links.Failed = troubles.Link
of_link links.OutOfMemory = troubles.OutOfMemory

-- memory that was refused behind other frames of a call
abbrev pub late : Trouble → Trouble
late troubles.Early = troubles.OutOfMemory
late trouble = trouble

-- a frame that was not sent; a frame too long is told as that and nothing else
abbrev pub Unsent : Trouble → Option (List Passed) → ℕ → List ℕ → Option (List Passed) → Type 0
Unsent troubles.Link told limit sent later = length sent ≤ limit
Unsent troubles.TooLong told limit sent later = (limit < length sent) × Adds told [] later
Unsent troubles.Ended told limit sent later = ⊥
Unsent troubles.Broken told limit sent later = ⊥
Unsent (troubles.Breach frame) told limit sent later = ⊥
Unsent troubles.Exhausted told limit sent later = ⊥
Unsent troubles.Early told limit sent later = ⊥
Unsent troubles.Closed told limit sent later = ⊥
Unsent troubles.OutOfMemory told limit sent later = length sent ≤ limit

-- a frame that was not received
abbrev pub Unreceived : Trouble → Option (List Passed) → Option (List Passed) → Type 0
Unreceived troubles.Link told later = Unit {0}
Unreceived troubles.TooLong told later = ⊥
Unreceived troubles.Ended told later = Adds told (Ended ∷ []) later
Unreceived troubles.Broken told later = ⊥
Unreceived (troubles.Breach frame) told later = ⊥
Unreceived troubles.Exhausted told later = ⊥
Unreceived troubles.Early told later = ⊥
Unreceived troubles.Closed told later = ⊥
Unreceived troubles.OutOfMemory told later = Unit {0}

-- one of the two
abbrev pub Unasked : Trouble → Option (List Passed) → ℕ → List ℕ → Option (List Passed) → Type 0
Unasked troubles.Link told limit sent later = length sent ≤ limit
Unasked troubles.TooLong told limit sent later = (limit < length sent) × Adds told [] later
Unasked troubles.Ended told limit sent later = Adds told (Sent sent ∷ Ended ∷ []) later
Unasked troubles.Broken told limit sent later = ⊥
Unasked (troubles.Breach frame) told limit sent later = ⊥
Unasked troubles.Exhausted told limit sent later = ⊥
Unasked troubles.Early told limit sent later = ⊥
Unasked troubles.Closed told limit sent later = ⊥
Unasked troubles.OutOfMemory told limit sent later = length sent ≤ limit

-- the same where memory may have been refused before the frame was made
abbrev pub Unspoken : Trouble → Option (List Passed) → ℕ → List ℕ → Option (List Passed) → Type 0
Unspoken troubles.Early told limit sent later = later ≡ told
Unspoken trouble told limit sent later = Unasked trouble told limit sent later

-- what was heard is an action
abbrev pub Acts : Heard → Type 0
Acts (Asks asked action) = Unit {0}
Acts (Ends Accepted) = Unit {0}
Acts (Ends Refused) = Unit {0}
Acts (Ends Broken) = ⊥
Acts Breach = ⊥

-- what was heard is no action, or memory is wanting for one
abbrev pub Unacted : Trouble → Heard → List ℕ → Type 0
Unacted troubles.Link said frame = ⊥
Unacted troubles.TooLong said frame = ⊥
Unacted troubles.Ended said frame = ⊥
Unacted troubles.Broken said frame = said ≡ Ends Broken
Unacted (troubles.Breach other) said frame = (said ≡ Breach) × (other ≡ frame)
Unacted troubles.Exhausted said frame = ⊥
Unacted troubles.Early said frame = ⊥
Unacted troubles.Closed said frame = ⊥
Unacted troubles.OutOfMemory said frame = Acts said

-- no registration that is legal here was heard
abbrev pub IsUnregistered : Standing → List ℕ → Trouble → Type 0
IsUnregistered s frame troubles.Link = ⊥
IsUnregistered s frame troubles.TooLong = ⊥
IsUnregistered s frame troubles.Ended = ⊥
IsUnregistered s frame troubles.Broken = ⊥
IsUnregistered s frame (troubles.Breach other) = (registered s (registration (limit_of s.version) frame) ≡ None) × (other ≡ frame)
IsUnregistered s frame troubles.Exhausted = ⊥
IsUnregistered s frame troubles.Early = ⊥
IsUnregistered s frame troubles.Closed = ⊥
IsUnregistered s frame troubles.OutOfMemory = Unit {0}

-- the peer says that it broke, while the station waits for its action
abbrev pub SaysBroken : Standing → Move → List ℕ → Type 0
SaysBroken s Registers frame = ⊥
SaysBroken s (Begins tx) frame = heard (limit_of s.version) (decimal (s.count + 1)) frame ≡ Ends Broken
SaysBroken s (Answers reply) frame = heard (limit_of s.version) (decimal s.count) frame ≡ Ends Broken
SaysBroken s Refuses frame = ⊥

-- a frame to be sent is longer than the version allows: before the peer's frame, or the answer to a registration
abbrev pub IsTooLong : Standing → Move → Option (List Passed) → Option (List Passed) → Type 0
IsTooLong s Registers told later =
    (got : List ℕ) × ((next : Standing) × ((frame : List ℕ) × ((after s Registers got ≡ Some next) × (sent_behind s Registers got next ≡ Sent frame ∷ [])
    × (limit_of s.version < length frame) × Adds told (Received got ∷ []) later)))
IsTooLong s (Begins tx) told later =
    (frame : List ℕ) × ((sent_before s (Begins tx) ≡ Sent frame ∷ []) × (limit_of s.version < length frame) × Adds told [] later)
IsTooLong s (Answers reply) told later =
    (frame : List ℕ) × ((sent_before s (Answers reply) ≡ Sent frame ∷ []) × (limit_of s.version < length frame) × Adds told [] later)
IsTooLong s Refuses told later = (frame : List ℕ) × ((sent_before s Refuses ≡ Sent frame ∷ []) × (limit_of s.version < length frame) × Adds told [] later)

-- why a move did not come to its end
abbrev pub Troubled : Trouble → Option (List Passed) → Standing → Move → Option (List Passed) → Type 0
Troubled troubles.Link told s move later = AreWithin (limit_of s.version) (sent_before s move)
Troubled troubles.TooLong told s move later = IsTooLong s move told later
Troubled troubles.Ended told s move later = Adds told (sent_before s move ++ Ended ∷ []) later
Troubled troubles.Broken told s move later = (frame : List ℕ) × (SaysBroken s move frame × Adds told (sent_before s move ++ Received frame ∷ []) later)
Troubled (troubles.Breach frame) told s move later =
    (after s move frame ≡ None) × (SaysBroken s move frame → ⊥) × Adds told (sent_before s move ++ Received frame ∷ []) later
Troubled troubles.Exhausted told s move later = (2 ^ 64 ≤ s.count + 1) × (later ≡ told)
Troubled troubles.Early told s move later = later ≡ told
Troubled troubles.Closed told s move later = ⊥
Troubled troubles.OutOfMemory told s move later = AreWithin (limit_of s.version) (sent_before s move)

-- no conversation is open that could go on, or the answer to the request that waits did not come to its end
abbrev pub Unanswered : Trouble → Option (List Passed) → Standing → Reply → Option (List Passed) → Type 0
Unanswered troubles.Closed told s reply later = ((s.asked ≡ None) ⊎ (s.last ≡ None)) × (later ≡ told)
Unanswered trouble told s reply later = IsDue s (Answers reply) × Troubled trouble told s (Answers reply) later

-- memory was refused behind some moves, before the next frame was made
pub record IsLate (trouble : Trouble) (moves : List Move) (told : Option (List Passed)) (later : Option (List Passed)) : Type 0 where
  pub memory : trouble ≡ troubles.OutOfMemory
  pub behind : moves ≡ [] → ⊥
  pub still : later ≡ told

-- some moves of the call came to their end, and then one that was due did not; want of memory before the first frame came
-- before all of them
pub record Stopped (ran_by stopped_by : Move → Type 0) (trouble : Trouble) (told : Option (List Passed)) (s : Standing) (later : Option (List Passed)) : Type 0 where
  pub moves : List Move
  pub are : AllByRecursion ran_by moves
  pub told_between : Option (List Passed)
  pub between : Standing
  pub ran : Ran told s moves told_between between
  pub move : Move
  pub is : stopped_by move
  pub due : IsDue between move
  pub came : Troubled trouble told_between between move later ⊎ IsLate trouble moves told_between later
  pub early : trouble ≡ troubles.Early → moves ≡ []

-- while registrations are awaited
abbrev pub StopsRegistering : Trouble → Option (List Passed) → Standing → Option (List Passed) → Type 0
StopsRegistering trouble told s later = Stopped (λ move. move ≡ Registers) (λ move. move ≡ Registers) trouble told s later

-- while a conversation is ended
abbrev pub StopsClosing : Trouble → Option (List Passed) → Standing → Option (List Passed) → Type 0
StopsClosing trouble told s later = Stopped (λ move. move ≡ Refuses) (λ move. move ≡ Refuses) trouble told s later

-- while one is ended, or as the next begins
abbrev pub StopsBeginning : Transaction → Trouble → Option (List Passed) → Standing → Option (List Passed) → Type 0
StopsBeginning tx trouble told s later = Stopped (λ move. move ≡ Refuses) (λ move. (move ≡ Refuses) ⊎ (move ≡ Begins tx)) trouble told s later
