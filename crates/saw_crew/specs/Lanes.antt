-- What came of lanes.
use Rattle.std.specs.Prelude.{◌≡◌, ℕ, suc, List, [], ◌∷◌, length}
use Rattle.saw_address.specs.Maps.{StateMap}
use Rattle.saw_messages.specs.TxShapes.{TxShape}
use Rattle.saw_context.specs.Lanes.{in_lane}
use Rattle.saw_context.specs.Outcome.{Processors}
use Rattle.saw_context.specs.Possible.{MayComeOfAll}
use Rattle.saw_context.specs.declared.batch_result.BatchResult.{BatchResult}

module _ (processors : Processors) (m : StateMap) (lanes : List ℕ) (batches : List (List TxShape)) where
  -- results that the batches of each lane may have by themselves, from this lane on
  abbrev pub HaveCome : ℕ → List (List BatchResult) → Type 0
  HaveCome lane [] = Unit {0}
  HaveCome lane (results ∷ others) = MayComeOfAll processors m (in_lane lane lanes batches) results × HaveCome (suc lane) others

  -- the same of so many lanes
  pub record AreOfLanes (lane count : ℕ) (came : List (List BatchResult)) : Type 0 where
    pub each : HaveCome lane came
    pub all : length came ≡ count
