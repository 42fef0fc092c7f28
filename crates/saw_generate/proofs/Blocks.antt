-- The blocks of a generated stream: each of their batches applies.
use Rattle.std.proofs.Common.{◌≡◌, ℕ, zero, suc, ◌+◌, ◌*◌, ◌<◌, ◌≤◌, false, List, [], ◌∷◌, map, None, refl, sym, subst, arith}
use Rattle.std.specs.List.{AllByRecursion, range_with_len}
use Rattle.std.proofs.lemmas.Bool.{le-ltb}
use Rattle.saw_address.specs.Maps.{StateMap, no_entries, value_at}
use Rattle.saw_messages.specs.TxShapes.{TxShape}
use Rattle.saw_context.specs.Serial.{failed_with, left_after, left_by, map_after_all, serial, serial_from}
use Rattle.saw_context.specs.declared.batch_result.BatchResult.{BatchResult}
use Rattle.saw_station.specs.Serving.{alone}
use Rattle.saw_generate.specs.Laws.{IsApplied}
use Rattle.saw_generate.proofs.Shapes.{IsBatch, batches_by, map_behind}
use Rattle.saw_generate.specs.declared.wish.GenerateWish.{GenerateWish}
use Rattle.saw_generate.proofs.Books.{none_held}
use Rattle.saw_generate.proofs.Steps.{Applies, IsAt, at_later, batch_applies, places_at}

-- ---- batches one after another

-- all apply, and they leave such a map
record AllApply (Q : StateMap → Type 0) (m : StateMap) (results : List BatchResult) : Type 0 where
  all : AllByRecursion IsApplied results
  left : Q (left_after m results)

-- one more before them
one_applies : (Q R : StateMap → Type 0) (m : StateMap) (txs : List TxShape) (batches : List (List TxShape)) → Applies Q txs m
    → ((n : StateMap) → Q n → AllApply R n (serial (alone []) n batches)) → AllApply R m (serial (alone []) m (txs ∷ batches))
one_applies Q R m txs batches applies later =
    let rest = later (map_after_all m applies.each) applies.left in
    subst
    (λ (result : BatchResult). AllApply R m (result ∷ serial_from (alone []) (failed_with [] txs result) (left_by m result) batches))
    (sym applies.is) (record { all = (tt, rest.all); left = rest.left })

each_applies : (Q : ℕ → StateMap → Type 0) (txs : ℕ → List TxShape) (n : ℕ)
    → ((k : ℕ) (m : StateMap) → k < n → Q k m → Applies (Q (k + 1)) (txs k) m)
    → (len k : ℕ) (m : StateMap) → k + len ≡ n → Q k m → AllApply (Q n) m (serial (alone []) m (map txs (range_with_len k len)))
each_applies Q txs n step zero k m at q =
    let here : k ≡ n = omega arith in
    record { all = tt; left = subst (λ k. Q k m) here q }
each_applies Q txs n step (suc len) k m at q =
    one_applies (Q (k + 1)) (Q n) m (txs k) (map txs (range_with_len (k + 1) len)) (step k m (omega arith) q)
    (λ after left. each_applies Q txs n step len (k + 1) after (omega arith) left)

-- ---- blocks one after another

-- the changes before a batch are at most so many
abbrev changes_before : ℕ → ℕ → ℕ
changes_before b k = 10000 * b + 2 * k

module _ (wish : GenerateWish) (txs : ℕ → ℕ → List TxShape) (blocks : wish.blocks ≤ 1000) (batches : wish.batches ≤ 5000)
    (are : (b k : ℕ) → b < wish.blocks → k < wish.batches → IsBatch wish b k (txs b k)) where
  -- the map before a batch
  abbrev Before : ℕ → ℕ → StateMap → Type 0
  Before b k m = IsAt (places_at wish.batches b k) (changes_before b k) m

  block_applies : (b : ℕ) (m : StateMap) → b < wish.blocks → Before b 0 m → AllApply (Before b wish.batches) m (serial (alone []) m (batches_by txs wish b))
  block_applies b m low at =
      each_applies (Before b) (txs b) wish.batches
      (λ k n less before.
      let one : changes_before b k + 2 ≡ changes_before b (k + 1) = omega arith in
      subst (λ c. Applies (IsAt (places_at wish.batches b (k + 1)) c) (txs b k) n) one
      (batch_applies wish n (changes_before b k) b k (txs b k) (omega (arith, blocks, batches)) less batches (are b k low less) before))
      wish.batches 0 m (omega arith) at

  all_places : (b : ℕ) → places_at wish.batches b wish.batches ≡ wish.batches
  all_places zero = refl
  all_places (suc b) = refl

  next_block : (b : ℕ) (m : StateMap) → Before b wish.batches m → Before (suc b) 0 m
  next_block b m before =
      at_later wish.batches (changes_before b wish.batches) (changes_before (suc b) 0) m (omega (arith, batches))
      (subst (λ places. IsAt places (changes_before b wish.batches) m) (all_places b) before)

  at_start : Before 0 0 no_entries
  at_start = record { here = λ name. false; holds = none_held; own = λ j small. sym (le-ltb j 0 (omega arith)); hot_is = refl }

  at_block : (b : ℕ) → b < wish.blocks → Before b 0 (map_behind txs wish b)
  unfolding map_behind
  at_block zero low = at_start
  at_block (suc b) low =
      let m = map_behind txs wish b in
      let before : b < wish.blocks = omega arith in
      let applied = block_applies b m before (at_block b before) in
      next_block b (left_after m (serial (alone []) m (batches_by txs wish b))) applied.left

  -- every batch of every block applies
  pub every_batch : (b : ℕ) → b < wish.blocks → AllByRecursion IsApplied (serial (alone []) (map_behind txs wish b) (batches_by txs wish b))
  every_batch b low = (block_applies b (map_behind txs wish b) low (at_block b low)).all

  -- and nothing is kept where settings are
  pub none_set : (b : ℕ) → b < wish.blocks → (tail : List ℕ) → value_at (map_behind txs wish b) (0 ∷ tail) ≡ None
  none_set b low tail = (at_block b low).holds.keeps.unset tail
