-- An external processor, as a station sees it.
use Rattle.std.specs.Prelude.{◌≡◌, ◌⊎◌, ℕ, ◌+◌, Bool, true, false, List, [], ◌∷◌, ◌++◌, Option, Some, None, min}
use Rattle.saw_faults.specs.Counts.{Rose, last_count}
use Rattle.saw_messages.specs.TxShapes.{TxShape, shape_in}
use Rattle.saw_messages.specs.declared.talk.Action.{Action}
use Rattle.saw_messages.specs.declared.talk.Reply.{Reply}
use Rattle.saw_messages.specs.declared.talk.Turn.{Turn}
use Rattle.saw_messages.specs.declared.transaction.Transaction.{Transaction}
use Rattle.saw_station.specs.TalkSteps.{Step}
use Rattle.saw_station.specs.declared.fault.StationFault.{StationFault}
use Rattle.saw_station.specs.declared.fault.StationFault.TheVariants as stations
use Rattle.saw_station.specs.Copies.{kept_tx}
use Rattle.saw_link.specs.LinkConversation.{Answers, Began, IsDue, Moved, IsSpelled, fresh}
use Rattle.saw_link.specs.declared.passed.Passed.{Passed}
use Rattle.saw_link.specs.Troubles.{StopsBeginning, Troubled}
use Rattle.saw_link.specs.declared.exchange.Trouble.{Trouble}
use Rattle.saw_link.specs.declared.exchange.Trouble.TheVariants as troubles
use Rattle.saw_link.specs.declared.remote.Health.{Health}
use Rattle.saw_link.specs.declared.remote.Health.TheVariants.{Sound, Failed, Starved}
use Rattle.saw_link.specs.declared.standing.LastStep.{LastStep}
use Rattle.saw_link.specs.declared.standing.Standing.{Standing}

-- the link, how it stands, whether it has begun and is sound, the count of faults, and the frame that was not legal
pub record Remote (L : Type 0) : Type 0 where
  pub link : L
  pub standing : Standing
  pub begun : Bool
  pub health : Health
  pub faults : ℕ
  pub breach : Option (List ℕ)

-- while it is sound, what the link tells spells how it stands; nothing passed before it began
pub record AgreesWithLink (told : Option (List Passed)) (standing : Standing) (begun : Bool) (health : Health) : Type 0 where
  pub spelled : health ≡ Sound → IsSpelled told standing
  pub still : health ≡ Sound → standing.refused ≡ 0
  pub ready : begun ≡ true → health ≡ Sound → standing.more ≡ false
  pub unbegun : begun ≡ false → health ≡ Sound → standing ≡ fresh

-- the copy of the last step
abbrev pub kept_step : Option LastStep → Option Step
kept_step None = None
kept_step (Some last) = Some (record { tx = shape_in last.tx; turns = last.turns; action = last.action })

-- what is kept is this step
pub record IsStep (kept : Option LastStep) (tx : TxShape) (turns : List Turn) (action : Action) : Type 0 where
  pub kept_of : Transaction
  pub is : kept ≡ Some (record { tx = kept_of; turns = turns; action = action })
  pub shape : shape_in kept_of ≡ tx

-- the request of the last step was answered by the reply that the turns add to it
pub record Answered (told : Option (List Passed)) (s : Standing) (turns : List Turn) (later : Option (List Passed)) (next : Standing) : Type 0 where
  pub last : LastStep
  pub reply : Reply
  pub had : s.last ≡ Some last
  pub adds : turns ≡ last.turns ++ record { action = last.action; reply = reply } ∷ []
  pub moved : Moved told s (Answers reply) later next

-- a step without turns begins a transaction, any other answers a request
abbrev pub Stepped : Option (List Passed) → Standing → TxShape → List Turn → Option (List Passed) → Standing → Type 0
Stepped told s tx turns later next = ((turns ≡ []) × Began told s (kept_tx tx) later next) ⊎ Answered told s turns later next

-- the answer to the last step's request, by the reply that the turns add to it, did not come to its end
pub record StopsAnswering (turns : List Turn) (trouble : Trouble) (told : Option (List Passed)) (s : Standing) (later : Option (List Passed)) : Type 0 where
  pub last : LastStep
  pub reply : Reply
  pub had : s.last ≡ Some last
  pub adds : turns ≡ last.turns ++ record { action = last.action; reply = reply } ∷ []
  pub due : IsDue s (Answers reply)
  pub came : Troubled trouble told s (Answers reply) later

-- no conversation is open that could go on, and nothing passed
abbrev pub StopsClosed : Trouble → Option (List Passed) → Standing → Option (List Passed) → Type 0
StopsClosed trouble told s later = (trouble ≡ troubles.Closed) × ((s.asked ≡ None) ⊎ (s.last ≡ None)) × (later ≡ told)

-- why a step did not come to its end
abbrev pub StopsStep : TxShape → List Turn → Trouble → Option (List Passed) → Standing → Option (List Passed) → Type 0
StopsStep tx turns trouble told s later =
    ((turns ≡ []) × StopsBeginning (kept_tx tx) trouble told s later) ⊎ (StopsAnswering turns trouble told s later ⊎ StopsClosed trouble told s later)

-- what a station answers of a trouble
abbrev pub fault_of : Trouble → StationFault
fault_of troubles.Link = stations.PeerFailed
fault_of troubles.TooLong = stations.PeerFailed
fault_of troubles.Ended = stations.PeerFailed
fault_of troubles.Broken = stations.PeerFailed
fault_of (troubles.Breach frame) = stations.PeerFailed
fault_of troubles.Exhausted = stations.PeerFailed
fault_of troubles.Early = stations.OutOfMemory
fault_of troubles.Closed = stations.PeerFailed
fault_of troubles.OutOfMemory = stations.OutOfMemory

-- whether a station may be used after a fault that is not early
abbrev pub health_of : StationFault → Health
health_of stations.PeerFailed = Failed
health_of stations.OutOfMemory = Starved

-- a failure is counted, up to the last count
abbrev pub faults_after : ℕ → StationFault → ℕ
faults_after faults stations.PeerFailed = min (faults + 1) last_count
faults_after faults stations.OutOfMemory = faults

-- the frame that was not legal
abbrev pub breach_of : Trouble → Option (List ℕ)
breach_of troubles.Link = None
breach_of troubles.TooLong = None
breach_of troubles.Ended = None
breach_of troubles.Broken = None
breach_of (troubles.Breach frame) = Some frame
breach_of troubles.Exhausted = None
breach_of troubles.Early = None
breach_of troubles.Closed = None
breach_of troubles.OutOfMemory = None

-- what a trouble leaves of a station
abbrev pub Leaves : {L : Type 0} → Trouble → Remote L → Remote L → Type 0
Leaves troubles.Early before after = after ≡ before
Leaves trouble before after = (after.health ≡ health_of (fault_of trouble)) × (after.breach ≡ breach_of trouble)

-- a failure is counted; after one each further call fails and is counted, and after want of memory each answers that
abbrev pub CountsFailure : Health → Health → StationFault → ℕ → ℕ → Type 0
CountsFailure Sound later fault before after = after ≡ faults_after before fault
CountsFailure Failed later fault before after = (later ≡ Failed) × (fault ≡ stations.PeerFailed) × (after ≡ min (before + 1) last_count)
CountsFailure Starved later fault before after = (later ≡ Starved) × (fault ≡ stations.OutOfMemory) × (after ≡ before)

-- why a call failed: the trouble, in which way it stopped the call, and what it leaves of the station
pub record Why {L : Type 0} (told : L → Option (List Passed)) (counted : L → ℕ) (stops : Trouble → Option (List Passed) → Standing → Option (List Passed) → Type 0)
    (before after : Remote L) (fault : StationFault) : Type 0 where
  pub trouble : Trouble
  pub is : fault ≡ fault_of trouble
  pub stopped : stops trouble (told before.link) before.standing (told after.link)
  pub link : trouble ≡ troubles.Link → Rose (counted before.link) (counted after.link)
  pub leaves : Leaves trouble before after
