-- Ids that stay as they are, and those that are added beside them.
use Rattle.std.proofs.Common.{◌≡◌, ℕ, List, [], ◌∷◌, ◌++◌, append-nil, append_assoc, refl, sym, ap}
use Rattle.saw_plan.specs.SortingSteps.{both}
use Rattle.saw_plan.specs.StaticRules.{Ids, with_batch_id, with_transactions}

module _ (known added there : Ids) (id : List ℕ) (are : both known added ≡ there) where
  pub batch-too : both known (with_batch_id added id) ≡ with_batch_id there id
  batch-too = rw (← are) (ap (λ (ids : List (List ℕ)). record { batches = ids; transactions = known.transactions ++ added.transactions })
      (sym (append_assoc known.batches added.batches (id ∷ []))))

  pub transaction-too : both known (with_transactions added (id ∷ [])) ≡ with_transactions there (id ∷ [])
  transaction-too = rw (← are) (ap (λ (ids : List (List ℕ)). record { batches = known.batches ++ added.batches; transactions = ids })
      (sym (append_assoc known.transactions added.transactions (id ∷ []))))

pub none-added : (there : Ids) → both there (record { batches = []; transactions = [] }) ≡ there
none-added there = rw (append-nil there.batches, append-nil there.transactions) refl
