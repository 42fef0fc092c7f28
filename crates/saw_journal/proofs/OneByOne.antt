-- Batches one after another.
use Rattle.std.proofs.Common.{◌≡◌, ℕ, ◌+◌, List, [], ◌∷◌, ◌++◌, None, refl, ap, arith}
use Rattle.saw_address.specs.Maps.{StateMap}
use Rattle.saw_context.specs.Outcome.{Processors}
use Rattle.saw_context.specs.Serial.{batch_result, failed_with, left_after, left_by, serial, serial_from}
use Rattle.saw_context.specs.declared.batch_result.BatchResult.{BatchResult}
use Rattle.saw_context.specs.declared.batch_result.BatchResult.TheVariants.{Applied, Failed}
use Rattle.saw_receipts.specs.Running.{Runs}
use Rattle.saw_messages.specs.TxShapes.{TxShape}
use Rattle.saw_schedule.specs.BatchResults.{first_failure}

module _ (processors : Processors) where
  -- where none failed, more batches are run over what was left
  abbrev RunsInTwo : List (List TxShape) → List (List TxShape) → ℕ → List TxShape → StateMap → Type 0
  RunsInTwo a b k failed m =
      let first = serial_from processors failed m a in
      first_failure k first ≡ None → serial_from processors failed m (a ++ b) ≡ first ++ serial_from processors failed (left_after m first) b

  -- the first of them has this result, and the others are run where it left the map
  first_done : (txs : List TxShape) (a b : List (List TxShape)) (k : ℕ) (failed : List TxShape) (m : StateMap) (result : BatchResult)
      → ((k : ℕ) (failed : List TxShape) (m : StateMap) → RunsInTwo a b k failed m)
      → let first = result ∷ serial_from processors (failed_with failed txs result) (left_by m result) a in
      first_failure k first ≡ None
      → (result ∷ serial_from processors (failed_with failed txs result) (left_by m result) (a ++ b)) ≡ first ++ serial_from processors failed
      (left_after m first) b
  first_done txs a b k failed m (Applied outcomes) others none =
      ap (λ results. Applied outcomes ∷ results) (others (k + 1) failed (left_by m (Applied outcomes)) none)
  first_done txs a b k failed m (Failed t reason) others none = absurd (grind (arith, none))

  serial-append : (a b : List (List TxShape)) (k : ℕ) (failed : List TxShape) (m : StateMap) → RunsInTwo a b k failed m
  serial-append [] b k failed m none = refl
  serial-append (txs ∷ a) b k failed m none = first_done txs a b k failed m (batch_result processors failed m txs) (serial-append a b) none

-- a way to run batches by which none come of none, and where none fails others run behind them as if by themselves
pub record RunsOneByOne (runs : Runs) : Type 0 where
  pub none : (m : StateMap) → runs m [] ≡ []
  pub behind : (m : StateMap) (a b : List (List TxShape)) → first_failure 0 (runs m a) ≡ None → runs m (a ++ b) ≡ runs m a ++ runs (left_after m (runs m a)) b

pub serial_one_by_one : (processors : Processors) → RunsOneByOne (λ m batches. serial processors m batches)
serial_one_by_one processors = record { none = λ m. refl; behind = λ m a b whole. serial-append processors a b 0 [] m whole }

pub left_after-append : (a b : List BatchResult) (m : StateMap) → left_after m (a ++ b) ≡ left_after (left_after m a) b
left_after-append [] b m = refl
left_after-append (result ∷ a) b m = left_after-append a b (left_by m result)

none_failed_from : (results : List BatchResult) (j k : ℕ) → first_failure j results ≡ None → first_failure k results ≡ None
none_failed_from [] j k none = refl
none_failed_from (Applied outcomes ∷ results) j k none = none_failed_from results (j + 1) (k + 1) none
none_failed_from (Failed t reason ∷ results) j k none = absurd (grind (arith, none))

-- none of these and none of those failed
pub first_failure-append : (a b : List BatchResult) (j k : ℕ) → first_failure k a ≡ None → first_failure j b ≡ None → first_failure k (a ++ b) ≡ None
first_failure-append [] b j k none others = none_failed_from b j k others
first_failure-append (Applied outcomes ∷ a) b j k none others = first_failure-append a b j (k + 1) none others
first_failure-append (Failed t reason ∷ a) b j k none others = absurd (grind (arith, none))
