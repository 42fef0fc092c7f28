-- What is true of transactions, whatever their processors.
use Rattle.std.specs.Prelude.{◌≡◌, ◌⊎◌, ℕ, Bool, true, false, List, Some}
use Rattle.std.specs.FinMap as finite
use Rattle.std.specs.List.{AllByRecursion}
use Rattle.saw_address.specs.Maps.{StateMap, AreAddresses, is_address, value_at}
use Rattle.saw_messages.specs.Reasons.{has_own_reason}
use Rattle.saw_messages.specs.TxShapes.{TxShape}
use Rattle.saw_messages.specs.declared.outcome.Change.{Change}
use Rattle.saw_messages.specs.declared.outcome.Outcome.{Outcome}
use Rattle.saw_messages.specs.declared.outcome.Outcome.TheVariants as outcomes
use Rattle.saw_messages.specs.declared.outcome.Reason.{Reason}
use Rattle.saw_messages.specs.declared.outcome.Reason.TheVariants.{DependencyFailed, TooManyRequests}
use Rattle.saw_messages.specs.declared.receipt.Event.{Event}
use Rattle.saw_messages.specs.declared.talk.Action.{Action}
use Rattle.saw_messages.specs.declared.talk.Action.TheVariants as actions
use Rattle.saw_messages.specs.declared.talk.Turn.{Turn}
use Rattle.saw_messages.specs.declared.transaction.TransactionHeader.{TransactionHeader}
use Rattle.saw_context.specs.Changed.{changed_by_all}
use Rattle.saw_context.specs.Conversation.{Overlay, are_covering}
use Rattle.saw_context.specs.Outcome.{Processors, conversed, outcome_of, changes_of, map_after, refusal}
use Rattle.saw_context.specs.Possible.{MayCome, MayComeOfAll, are_told, is_told}
use Rattle.saw_context.specs.SoundResults.{IsOf, IsOfBase, IsSeen, IsSound, fits_dependency, is_early}
use Rattle.saw_context.specs.Serial.{left_after, serial}
use Rattle.saw_context.specs.declared.batch_result.BatchResult.{BatchResult}
use Rattle.saw_context.specs.Views.{Layers, over, layered}
use Rattle.saw_context.specs.declared.reads.Read.{Read}

-- what a map with a view on top has
abbrev pub OverShows : Type 0
OverShows = (m : StateMap) (layers : Layers) (at : List ℕ) → value_at (over m layers) at ≡ layered (finite.get layers at) (value_at m at)

-- the outcome depends only on what the map has at addresses that the inputs cover
abbrev pub OutcomeSeesInputs : Type 0
OutcomeSeesInputs = (processors : Processors) (tx : TxShape) (m n : StateMap) (failed : Bool)
    → ((at : List ℕ) → are_covering tx.header.inputs at ≡ true → value_at m at ≡ value_at n at)
    → outcome_of processors tx m failed ≡ outcome_of processors tx n failed

-- a transaction writes only addresses that its outputs cover
abbrev pub WritesAreCovered : Type 0
WritesAreCovered = (processors : Processors) (tx : TxShape) (m : StateMap) (failed : Bool) (changes : List Change) (events : List Event)
    → outcome_of processors tx m failed ≡ outcomes.Ok changes events
    → AllByRecursion (λ change. are_covering tx.header.outputs change.address ≡ true) changes

-- no reason that comes before a conversation comes out of one
abbrev pub ConversationIsNotEarly : Type 0
ConversationIsNotEarly = (next : List Turn → Action) (header : TransactionHeader) (m : StateMap)
    → ((turns : List Turn) → has_own_reason (next turns) ≡ true) → is_early (conversed next header m) ≡ false

-- a true result whose recorded reads are what a map gives has the outcome over that map, where the processor is told
abbrev pub SoundIsOutcome : Type 0
SoundIsOutcome = (processors : Processors) (tx : TxShape) (reads : List Read) (outcome : Outcome) (m : StateMap) (failed : Bool)
    → IsSound processors tx reads outcome
    → processors.tells tx.header.family_name tx.header.family_version ≡ true
    → fits_dependency failed outcome ≡ true
    → AllByRecursion (IsOf m) reads
    → outcome ≡ outcome_of processors tx m failed

-- reads that are what a view gives, and those of the base what the base has, are what the base gives with the view on top
abbrev pub SeenIsOver : Type 0
SeenIsOver = (m : StateMap) (layers : Layers) (reads : List Read)
    → AllByRecursion (IsSeen layers) reads → AllByRecursion (IsOfBase m) reads → AllByRecursion (IsOf (over m layers)) reads

-- gathered changes leave what they leave one after another
abbrev pub GatheredChangesShow : Type 0
GatheredChangesShow = (m : StateMap) (gathered : Overlay) (changes : List Change)
    → map_after m (changes_of (changed_by_all gathered changes)) ≡ map_after (map_after m (changes_of gathered)) changes

-- ---- what may come

-- of a transaction whose processor is told, its outcome alone may come
abbrev pub MayComeIsTold : Type 0
MayComeIsTold = (processors : Processors) (tx : TxShape) (m : StateMap) (failed : Bool) (outcome : Outcome)
    → is_told processors tx ≡ true → MayCome processors tx m failed outcome
    → outcome ≡ outcome_of processors tx m failed

-- a true result whose recorded reads are what a map gives may come over that map, where the processors
-- refuse the transaction by their own reasons
abbrev pub SoundMayCome : Type 0
SoundMayCome = (processors : Processors) (tx : TxShape) (reads : List Read)
    (outcome : Outcome) (m : StateMap) (failed : Bool)
    → ((said : List Turn) → has_own_reason (processors.next tx said) ≡ true)
    → IsSound processors tx reads outcome
    → fits_dependency failed outcome ≡ true
    → AllByRecursion (IsOf m) reads
    → MayCome processors tx m failed outcome

-- where each transaction's processor is told, the serial results alone may come
abbrev pub TellingDecides : Type 0
TellingDecides = (processors : Processors) (m : StateMap) (batches : List (List TxShape))
    (results : List BatchResult)
    → are_told processors batches ≡ true → MayComeOfAll processors m batches results
    → results ≡ serial processors m batches

-- the serial results may come, where the processors refuse by their own reasons
abbrev pub SerialMayCome : Type 0
SerialMayCome = (processors : Processors) (m : StateMap) (batches : List (List TxShape))
    → ((tx : TxShape) (turns : List Turn) → has_own_reason (processors.next tx turns) ≡ true)
    → MayComeOfAll processors m batches (serial processors m batches)

-- why a transaction may be invalid: a reason before any conversation, a failed dependency, one request too
-- many, or a processor's own reason
abbrev pub MayRefuse : Processors → TxShape → Bool → Reason → Type 0
MayRefuse processors tx failed reason =
    (refusal processors tx ≡ Some reason) ⊎ (((failed ≡ true) × (reason ≡ DependencyFailed))
    ⊎ ((reason ≡ TooManyRequests) ⊎ (has_own_reason (actions.Invalid reason) ≡ true)))

-- both maps have the same at each address that these cover
abbrev pub HaveSame : List (List ℕ) → StateMap → StateMap → Type 0
HaveSame texts m n =
    (at : List ℕ) → is_address at ≡ true → are_covering texts at ≡ true → value_at m at ≡ value_at n at

-- what may come of a transaction keeps to what it declares: it may come over each map that has the same at
-- the addresses that the inputs cover, changes only addresses that the outputs cover, and refuses by these
-- reasons
pub record KeepsAccess (processors : Processors) (tx : TxShape) (m : StateMap)
    (failed : Bool) (outcome : Outcome) : Type 0 where
  pub inputs : (n : StateMap) → HaveSame tx.header.inputs m n → MayCome processors tx n failed outcome
  pub outputs : (changes : List Change) (events : List Event) → outcome ≡ outcomes.Ok changes events
      → AllByRecursion (λ change.
      (are_covering tx.header.outputs change.address ≡ true) × (is_address change.address ≡ true)) changes
  pub reasons : (reason : Reason) → outcome ≡ outcomes.Invalid reason → MayRefuse processors tx failed reason

-- whatever processors answer, what may come of a transaction keeps to what it declares
abbrev pub AccessIsKept : Type 0
AccessIsKept = (processors : Processors) (tx : TxShape) (m : StateMap) (failed : Bool) (outcome : Outcome)
    → MayCome processors tx m failed outcome → KeepsAccess processors tx m failed outcome

-- whatever processors answer, a state that has entries at addresses alone is left with such
abbrev pub AddressesAreKept : Type 0
AddressesAreKept = (processors : Processors) (m : StateMap) (batches : List (List TxShape))
    (results : List BatchResult)
    → AreAddresses (finite.entries m) → MayComeOfAll processors m batches results
    → AreAddresses (finite.entries (left_after m results))
