-- Batches that stand in lanes: those of different lanes declare no address in common.
use Rattle.std.specs.Prelude.{◌≡◌, ℕ, List, [], ◌∷◌, true, length, ◌==◌, if◌then◌else◌}
use Rattle.std.specs.List.{AllByRecursion}
use Rattle.saw_address.specs.Maps.{StateMap, is_address}
use Rattle.saw_messages.specs.TxShapes.{TxShape}
use Rattle.saw_context.specs.Conversation.{are_covering}
use Rattle.saw_context.specs.Outcome.{Processors}
use Rattle.saw_context.specs.Possible.{MayComeOfAll}
use Rattle.saw_context.specs.declared.batch_result.BatchResult.{BatchResult}

-- the items of a lane, where each item has one
abbrev pub in_lane : {A : Type 0} → ℕ → List ℕ → List A → List A
in_lane lane [] items = []
in_lane lane (its ∷ lanes) [] = []
in_lane lane (its ∷ lanes) (item ∷ items) = if its == lane then item ∷ in_lane lane lanes items else in_lane lane lanes items

-- each address that the texts cover belongs to this lane
abbrev pub AreOf : (List ℕ → ℕ) → ℕ → List (List ℕ) → Type 0
AreOf owner lane texts = (at : List ℕ) → is_address at ≡ true → are_covering texts at ≡ true → owner at ≡ lane

-- a transaction that names no other, and declares addresses of its lane alone
pub record KeepsToLane (owner : List ℕ → ℕ) (lane : ℕ) (tx : TxShape) : Type 0 where
  pub alone : tx.header.dependencies ≡ []
  pub inputs : AreOf owner lane tx.header.inputs
  pub outputs : AreOf owner lane tx.header.outputs

-- each batch keeps to its lane
abbrev pub KeepToLanes : (List ℕ → ℕ) → List ℕ → List (List TxShape) → Type 0
KeepToLanes owner [] batches = Unit {0}
KeepToLanes owner (lane ∷ lanes) [] = Unit {0}
KeepToLanes owner (lane ∷ lanes) (txs ∷ batches) = AllByRecursion (KeepsToLane owner lane) txs × KeepToLanes owner lanes batches

-- where each address belongs to one lane, what may come of the batches of each lane alone may come of all of them, one
-- after another
abbrev pub LanesAreSerial : Type 0
LanesAreSerial = (processors : Processors) (m : StateMap) (owner : List ℕ → ℕ) (lanes : List ℕ) (batches : List (List TxShape))
    (results : List BatchResult)
    → KeepToLanes owner lanes batches → length lanes ≡ length batches → length lanes ≡ length results
    → ((lane : ℕ) → MayComeOfAll processors m (in_lane lane lanes batches) (in_lane lane lanes results))
    → MayComeOfAll processors m batches results
