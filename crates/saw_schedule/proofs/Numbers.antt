-- Transactions of batches by their numbers, and which of them name a failed one.
use Rattle.std.proofs.Common.{◌≡◌, ℕ, zero, suc, ◌+◌, ◌<◌, ◌≤◌, Bool, true, false, ◌&&◌, ◌||◌, List, [], ◌∷◌, ◌++◌, length, Some, slice_get, refl}
use Rattle.std.proofs.Common.{sym, ap, ◌∙◌, arith, bytes_eq}
use Rattle.std.proofs.lemmas.Bool.{and_right}
use Rattle.std.proofs.lemmas.List.Folds.{list_any-append}
use Rattle.std.specs.List.{list_any}
use Rattle.saw_messages.specs.TxShapes.{TxShape}
use Rattle.saw_context.specs.Serial.{failed_with, names_one}
use Rattle.saw_context.specs.declared.batch_result.BatchResult.{BatchResult}
use Rattle.saw_context.specs.declared.batch_result.BatchResult.TheVariants.{Applied, Failed}
use Rattle.saw_machine.proofs.Closure.{any-same}
use Rattle.saw_machine.proofs.Hits.{within-before, within-no, within-yes}
use Rattle.saw_machine.specs.Orders.{any_below}
use Rattle.saw_machine.specs.Serial.{failed_after, names_failed}
use Rattle.saw_plan.specs.Precedence.{names_tx, on_tx}
use Rattle.saw_schedule.specs.Orders.{order_of}

-- ---- lists

-- the list stands in the whole one from number n on
abbrev pub StandsFrom : List TxShape → ℕ → List TxShape → Type 0
StandsFrom txs n list = (i : ℕ) → slice_get list i ≡ slice_get txs (n + i)

-- the whole list stands from 0 on
pub stands-whole : (txs : List TxShape) → StandsFrom txs 0 txs
stands-whole txs i = let here : 0 + i ≡ i = omega arith in rw here refl

-- the first of it has number n
pub stands-first : (txs : List TxShape) (n : ℕ) (tx : TxShape) (list : List TxShape) → StandsFrom txs n (tx ∷ list) → slice_get txs n ≡ Some tx
stands-first txs n tx list stands = let here : n + 0 ≡ n = omega arith in sym (rw here at (stands 0))

-- the others stand from the next number on
pub stands-rest : (txs : List TxShape) (n : ℕ) (tx : TxShape) (list : List TxShape) → StandsFrom txs n (tx ∷ list) → StandsFrom txs (suc n) list
stands-rest txs n tx list stands i = let here : n + suc i ≡ suc n + i = omega arith in rw here at (stands (suc i))

-- what is behind a batch stands behind its numbers
pub stands-behind : (txs : List TxShape) (n m : ℕ) (batch more : List TxShape) → m ≡ n + length batch → StandsFrom txs n (batch ++ more)
    → StandsFrom txs m more
stands-behind txs n m [] more to stands = let here : m ≡ n = omega arith in rw here stands
stands-behind txs n m (tx ∷ batch) more to stands =
    stands-behind txs (suc n) m batch more (omega arith) (stands-rest txs n tx (batch ++ more) stands)

-- ---- numbers that pass a test

-- numbers that all fail add nothing
any-none : (n size m : ℕ) (test : ℕ → Bool) → m ≡ n + size → ((j : ℕ) → n ≤ j → test j ≡ false) → any_below m test ≡ any_below n test
any-none n zero m test to none = let here : m ≡ n = omega arith in rw here refl
any-none n (suc size) m test to none =
    let here : m ≡ suc (n + size) = omega arith in
    rw (here, none (n + size) (omega arith)) (any-none n size (n + size) test refl none)

-- one of the `size` numbers from n on passes
abbrev any_from : ℕ → ℕ → (ℕ → Bool) → Bool
any_from n zero test = false
any_from n (suc size) test = test n || any_from (suc n) size test

-- three tests in another order
or-swap : (a b c : Bool) → (c || (b || a)) ≡ ((b || c) || a)
or-swap a true true = refl
or-swap a true false = refl
or-swap a false true = refl
or-swap a false false = refl

-- two tests the other way round
or-turn : (a b : Bool) → (a || b) ≡ (b || a)
or-turn true true = refl
or-turn true false = refl
or-turn false true = refl
or-turn false false = refl

-- the numbers below n and those from n on
any-split : (n size m : ℕ) (test : ℕ → Bool) → m ≡ n + size → any_below m test ≡ (any_from n size test || any_below n test)
any-split n zero m test to = let here : m ≡ n = omega arith in rw here refl
any-split n (suc size) m test to =
    any-split (suc n) size m test (omega arith) ∙ or-swap (any_below n test) (test n) (any_from (suc n) size test)

-- ---- failed transactions

-- a failed transaction that passes the test
abbrev is_failed_one : List TxShape → (ℕ → Bool) → (TxShape → Bool) → ℕ → Bool
is_failed_one txs failed test j = on_tx (slice_get txs j) test && failed j

-- the failed numbers, all below n, are those of the failed transactions
pub record AreFailed (txs : List TxShape) (n : ℕ) (failed : ℕ → Bool) (others : List TxShape) : Type 0 where
  pub found : (test : TxShape → Bool) → any_below n (is_failed_one txs failed test) ≡ list_any test others
  pub none : (j : ℕ) → n ≤ j → failed j ≡ false

-- none at the start
pub none-failed : (txs : List TxShape) → AreFailed txs 0 (λ j. false) []
none-failed txs = record { found = λ test. refl; none = λ j from. refl }

-- nothing from n on is a failed one
one-none : (txs : List TxShape) (n : ℕ) (failed : ℕ → Bool) (others : List TxShape) → AreFailed txs n failed others
    → (test : TxShape → Bool) (j : ℕ) → n ≤ j → is_failed_one txs failed test j ≡ false
one-none txs n failed others are test j from = and_right (on_tx (slice_get txs j) test) (failed j) (are.none j from)

-- of a batch that has failed, the numbers that pass are those of the transactions that pass
any-batch : (txs : List TxShape) (failed : ℕ → Bool) (test : TxShape → Bool) (n : ℕ) (batch more : List TxShape) → StandsFrom txs n (batch ++ more)
    → ((j : ℕ) → n ≤ j → j < n + length batch → failed j ≡ true) → any_from n (length batch) (is_failed_one txs failed test) ≡ list_any test batch
any-batch txs failed test n [] more stands all = refl
any-batch txs failed test n (tx ∷ batch) more stands all =
    rw (
      stands-first txs n tx (batch ++ more) stands,
      all n (omega arith) (omega arith),
      any-batch txs failed test (suc n) batch more (stands-rest txs n tx (batch ++ more) stands) (λ j from less. all j (omega arith) (omega arith)),
    )
    (ap (λ (b : Bool). b || list_any test batch) (and-true (test tx)))
  where
    and-true : (a : Bool) → (a && true) ≡ a
    and-true true = refl
    and-true false = refl

-- and once one more batch has settled
pub failed-next : (txs : List TxShape) (n : ℕ) (failed : ℕ → Bool) (others batch more : List TxShape) (result : BatchResult)
    → AreFailed txs n failed others → StandsFrom txs n (batch ++ more)
    → AreFailed txs (n + length batch) (failed_after failed n (length batch) result) (failed_with others batch result)
failed-next txs n failed others batch more (Applied outcomes) are stands = record {
  found = λ test.
      any-none n (length batch) (n + length batch) (is_failed_one txs failed test) refl (one-none txs n failed others are test) ∙ are.found test;
  none = λ j from. are.none j (omega arith);
}
failed-next txs n failed others batch more (Failed t reason) are stands = record {
  found = λ test.
      any-split n (length batch) (n + length batch) (is_failed_one txs gone test) refl
      ∙ ap (λ (b : Bool). b || any_below n (is_failed_one txs gone test))
      (any-batch txs gone test n batch more stands (λ j from less. rw (within-yes n (length batch) j from less) refl))
      ∙ ap (λ (b : Bool). list_any test batch || b)
      (any-same n (is_failed_one txs gone test) (is_failed_one txs failed test) (λ j less. rw (within-before n (length batch) j less) refl)
      ∙ are.found test)
      ∙ or-turn (list_any test batch) (list_any test others)
      ∙ sym (list_any-append test others batch);
  none = λ j from. rw (within-no n (length batch) j from) (are.none j (omega arith));
}
  where
    gone : ℕ → Bool
    gone = failed_after failed n (length batch) (Failed t reason)

-- ---- who names a failed one

-- one of two tests passes somewhere
any-or : (p q : List ℕ → Bool) (ids : List (List ℕ)) → list_any (λ id. p id || q id) ids ≡ (list_any p ids || list_any q ids)
any-or p q [] = refl
any-or p q (id ∷ ids) = rw (any-or p q ids) (turn (p id) (q id) (list_any p ids) (list_any q ids))
  where
    turn : (a b c d : Bool) → ((a || b) || (c || d)) ≡ ((a || c) || (b || d))
    turn true b c d = refl
    turn false true true d = refl
    turn false true false d = refl
    turn false false c d = refl

-- a test that always fails
any-never : (ids : List (List ℕ)) → list_any (λ (id : List ℕ). false) ids ≡ false
any-never [] = refl
any-never (id ∷ ids) = any-never ids

-- to name one of these is that one of these is named
names-any : (tx : TxShape) (others : List TxShape) → names_one tx others ≡ list_any (names_tx tx) others
names-any tx [] = any-never tx.header.dependencies
names-any tx (other ∷ others) =
    any-or (λ id. bytes_eq id other.id) (λ id. list_any (λ other. bytes_eq id other.id) others) tx.header.dependencies
    ∙ ap (λ (b : Bool). names_tx tx other || b) (names-any tx others)

-- a transaction behind them names a failed one by number exactly where it does so by id
pub names-failed : (txs : List TxShape) (n d k : ℕ) (failed : ℕ → Bool) (others : List TxShape) (tx : TxShape) → AreFailed txs n failed others
    → k ≡ n + d → slice_get txs k ≡ Some tx → names_failed (order_of txs) failed k ≡ names_one tx others
names-failed txs n d k failed others tx are to there =
    rw there (any-none n d k (is_failed_one txs failed (names_tx tx)) to (one-none txs n failed others are (names_tx tx)) ∙ are.found (names_tx tx))
    ∙ sym (names-any tx others)
