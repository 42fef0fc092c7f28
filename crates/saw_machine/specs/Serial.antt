-- What may come of batches of numbered transactions, one after another, each wholly or not at all.
use Rattle.std.specs.Prelude.{◌≡◌, ℕ, zero, suc, ◌+◌, Bool, true, false, ◌&&◌, ◌||◌, nat_le, nat_lt, List, [], ◌∷◌}
use Rattle.saw_messages.specs.declared.outcome.Change.{Change}
use Rattle.saw_messages.specs.declared.outcome.Outcome.{Outcome}
use Rattle.saw_messages.specs.declared.outcome.Outcome.TheVariants.{Ok, Invalid}
use Rattle.saw_context.specs.Serial.{behind}
use Rattle.saw_context.specs.declared.batch_result.BatchResult.{BatchResult}
use Rattle.saw_context.specs.declared.batch_result.BatchResult.TheVariants.{Applied, Failed}
use Rattle.saw_machine.specs.Orders.{Map, Order, after, any_below}

-- whether i names one of the failed transactions
abbrev pub names_failed : Order → (ℕ → Bool) → ℕ → Bool
names_failed order failed i = any_below i (λ j. order.names i j && failed j)

-- the map after outcomes, one after another
abbrev pub after_all : Map → List Outcome → Map
after_all m [] = m
after_all m (Ok changes events ∷ outcomes) = after_all (after m changes) outcomes
after_all m (Invalid reason ∷ outcomes) = after_all m outcomes

-- the map after a batch: a failed one leaves it as it was
abbrev pub map_after : Map → BatchResult → Map
map_after m (Applied outcomes) = after_all m outcomes
map_after m (Failed t reason) = m

-- the map after the batches with these results
abbrev pub end_map : Map → List BatchResult → Map
end_map m [] = m
end_map m (result ∷ results) = end_map (map_after m result) results

-- j is one of the `size` numbers from n on
abbrev pub within : ℕ → ℕ → ℕ → Bool
within n size j = nat_le n j && nat_lt j (n + size)

-- the failed transactions after a batch
abbrev pub failed_after : (ℕ → Bool) → ℕ → ℕ → BatchResult → ℕ → Bool
failed_after failed n size (Applied outcomes) j = failed j
failed_after failed n size (Failed t reason) j = within n size j || failed j

-- what comes behind the outcome of a batch's first transaction: an invalid one ends the batch
abbrev pub ThenOthers : (List Change → BatchResult → Type 0) → Outcome → BatchResult → Type 0
ThenOthers Others (Ok changes events) result = (others : BatchResult) × Others changes others × (result ≡ behind (Ok changes events) others)
ThenOthers Others (Invalid reason) result = result ≡ Failed 0 reason

-- `May i m failed outcome`: the outcome may come of transaction i over a map, where a dependency of it failed or not
module _ (order : Order) (May : ℕ → Map → Bool → Outcome → Type 0) where
  -- the transactions from number n on, each over the map that those before it left
  abbrev pub MayComeOfBatch : (ℕ → Bool) → ℕ → ℕ → Map → BatchResult → Type 0
  MayComeOfBatch failed n zero m result = result ≡ Applied []
  MayComeOfBatch failed n (suc size) m result =
      (outcome : Outcome) × May n m (names_failed order failed n) outcome
      × ThenOthers (λ changes others. MayComeOfBatch failed (suc n) size (after m changes) others) outcome result

  -- batches of these sizes, whose transactions are numbered from n on
  abbrev pub MayComeFrom : Map → (ℕ → Bool) → ℕ → List ℕ → List BatchResult → Type 0
  MayComeFrom m failed n [] results = results ≡ []
  MayComeFrom m failed n (size ∷ sizes) results =
      (result : BatchResult) × (others : List BatchResult) × MayComeOfBatch failed n size m result
      × MayComeFrom (map_after m result) (failed_after failed n size result) (n + size) sizes others × (results ≡ result ∷ others)

  -- results that batches of these sizes may have, run one after another over a map
  abbrev pub MayComeOfAll : Map → List ℕ → List BatchResult → Type 0
  MayComeOfAll m sizes results = MayComeFrom m (λ j. false) 0 sizes results

-- what is asked of what may come: it depends on what may be read alone
abbrev pub ReadsOnly : Order → (ℕ → Map → Bool → Outcome → Type 0) → Type 0
ReadsOnly order May = (i : ℕ) (m n : Map) (failed : Bool) (outcome : Outcome)
    → ((at : List ℕ) → order.reads i at ≡ true → m at ≡ n at) → May i m failed outcome → May i n failed outcome
