-- What every list of steps comes to.
use Rattle.std.specs.Prelude.{◌≡◌, ◌+◌, ◌≤◌, ℕ, true, List, [], ◌∷◌, ◌++◌, None, ⊤}
use Rattle.std.specs.List.{AllByRecursion}
use Rattle.saw_address.specs.Maps.{StateMap, value_at}
use Rattle.saw_messages.specs.Reasons.{has_own_reason}
use Rattle.saw_messages.specs.TxShapes.{BatchShape, TxShape}
use Rattle.saw_messages.specs.declared.talk.Turn.{Turn}
use Rattle.saw_context.specs.Outcome.{Processors}
use Rattle.saw_context.specs.Possible.{MayComeOfAll, are_told}
use Rattle.saw_context.specs.Serial.{left_after, serial}
use Rattle.saw_context.specs.SoundResults.{IsOfBase, IsSoundDone}
use Rattle.saw_context.specs.declared.job.Ticket.{Ticket}
use Rattle.saw_machine.specs.Laws.{IsLawful, failed_before, returns_of, some_disturbs}
use Rattle.saw_machine.specs.Laws as laws
use Rattle.saw_machine.specs.Machine.{IsReady, State, look, next}
use Rattle.saw_plan.specs.BatchShapes.{txs_of}
use Rattle.saw_schedule.specs.Histories.{History, IsReplay, difference_in, move_of, moves_of, order_in, sizes_in, start_of, state_of, txs_in}
use Rattle.saw_schedule.specs.Orders.{order_of}
use Rattle.saw_schedule.specs.declared.step.Step.{Step}
use Rattle.saw_schedule.specs.declared.step.Step.TheVariants.{Take, Finish, GiveBack}

-- ---- serial execution

module _ (processors : Processors) (m : StateMap) (txs : List TxShape) where
  -- a result that is accepted is true, and its reads of the base are what the base has
  abbrev pub IsTrueStep : State → Step → Type 0
  IsTrueStep st (Take ticket) = ⊤
  IsTrueStep st (Finish done) = difference_in txs st done ≡ None → IsSoundDone processors done × AllByRecursion (IsOfBase m) done.reads
  IsTrueStep st (GiveBack ticket) = ⊤

  abbrev pub AreTrueSteps : State → List Step → Type 0
  AreTrueSteps st [] = ⊤
  AreTrueSteps st (step ∷ steps) = IsTrueStep st step × AreTrueSteps (next (order_of txs) st (move_of txs st step)) steps

-- the results are what may come of the batches one after another; where all processors are told they are those of
-- serial execution; and what the slots show is the map after them
pub record EndsSerial (processors : Processors) (m : StateMap) (h : History) : Type 0 where
  pub results : MayComeOfAll processors m (txs_of h.batches) (state_of h).results
  pub told : are_told processors (txs_of h.batches) ≡ true → (state_of h).results ≡ serial processors m (txs_of h.batches)
  pub map : (at : List ℕ) → look (value_at m) (state_of h).slots (state_of h).first at ≡ value_at (left_after m (state_of h).results) at

-- every list of steps that ends finished, in which each accepted result is true, is serial execution
abbrev pub StepsAreSerial : Type 0
StepsAreSerial = (processors : Processors) (m : StateMap) (h : History)
    → ((tx : TxShape) (turns : List Turn) → has_own_reason (processors.next tx turns) ≡ true)
    → IsReplay h → AreTrueSteps processors m (txs_in h) (start_of h) h.steps
    → (state_of h).rest ≡ [] → EndsSerial processors m h

-- ---- what every step keeps

abbrev pub HistoriesAreLawful : Type 0
HistoriesAreLawful = (h : History) → IsReplay h → IsLawful (order_in h) (state_of h)

-- where nothing runs and not all is settled, some transaction may be taken
abbrev pub NeverStuck : Type 0
NeverStuck = (h : History) → IsReplay h
    → laws.IsQuiet (state_of h) → ((state_of h).rest ≡ [] → ⊥)
    → (i : ℕ) × IsReady (order_in h) (state_of h) i

-- ---- no needless rerun

-- between two takes of one transaction stands a give-back of it, a result of it that was refused, or the settling as
-- failed of a batch that it stands on
abbrev pub NoNeedlessRerun : Type 0
NoNeedlessRerun = (batches : List BatchShape) (before between : List Step) (first second : Ticket)
    → IsReplay (record { batches = batches; steps = before ++ Take first ∷ between ++ Take second ∷ [] })
    → first.index ≡ second.index
    → let h : History = record { batches = batches; steps = before ++ Take first ∷ [] } in
    some_disturbs (order_in h) first.index (state_of h) (moves_of (txs_in h) (state_of h) between) ≡ true

-- a transaction is taken at most once, and once more for each return and each failed batch before its own
abbrev pub FewReruns : Type 0
FewReruns = (h : History) (i : ℕ) → IsReplay h
    → (state_of h).attempts i
    ≤ 1 + returns_of i (moves_of (txs_in h) (start_of h) h.steps) + failed_before 0 (sizes_in h) (state_of h).results i
