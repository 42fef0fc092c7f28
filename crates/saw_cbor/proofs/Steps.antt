-- One level of reading, where there is fuel.
use Rattle.std.proofs.Common.{◌≡◌, ℕ, zero, suc, ◌+◌, ◌-◌, ◌/◌, ◌<◌, ◌≤◌, ◌≢◌, ◌⊎◌, inl, inr, true, false, List, Result, Ok, Err, refl, ap, ◌∙◌, arith}
use Rattle.std.specs.Prelude.{nat_lt, ◌==◌}
use Rattle.std.proofs.lemmas.Bool.{lt-ltb, le-ltb, ne_eqb}
use Rattle.saw_cbor.specs.declared.fault.CborFault.{CborFault}
use Rattle.saw_cbor.specs.declared.fault.CborFault.TheVariants.{Cut, Deep, OutOfMemory}
use Rattle.saw_cbor.specs.Data.{list, pairs, item, pair, no_items, no_pairs}
use Rattle.saw_cbor.specs.Reading.{◌>>=◌, Head, head_at, leaf_at, item_at, items_at, pairs_at}

pub item_empty : (depth inside p : ℕ) (whole : List ℕ) → item_at 0 depth inside p whole ≡ Err Cut
unfolding item_at
item_empty depth inside p whole = refl

pub items_empty : (n depth inside p : ℕ) (whole : List ℕ) → n ≢ 0 → items_at 0 n depth inside p whole ≡ Err Cut
unfolding items_at
items_empty n depth inside p whole some = let t : (n == 0) ≡ false = ne_eqb _ _ some in rw t refl

pub pairs_empty : (n depth inside p : ℕ) (whole : List ℕ) → n ≢ 0 → pairs_at 0 n depth inside p whole ≡ Err Cut
unfolding pairs_at
pairs_empty n depth inside p whole some = let t : (n == 0) ≡ false = ne_eqb _ _ some in rw t refl

pub item_deep : (fuel m depth inside p : ℕ) (whole : List ℕ) → fuel ≡ suc m → depth < inside → item_at fuel depth inside p whole ≡ Err Deep
unfolding item_at
item_deep fuel m depth inside p whole more deep =
    let t : nat_lt depth inside ≡ true = lt-ltb _ _ deep in
    rw (more, t) refl

pub item_no_head : (fuel m depth inside p : ℕ) (whole : List ℕ) (e : CborFault) → fuel ≡ suc m → inside ≤ depth → head_at p whole ≡ Err e
    → item_at fuel depth inside p whole ≡ Err e
unfolding item_at
item_no_head fuel m depth inside p whole e more fine failed =
    let t : nat_lt depth inside ≡ false = le-ltb _ _ fine in
    rw (more, t, failed) refl

pub item_list : (fuel m depth inside p : ℕ) (whole : List ℕ) (head : Head) → fuel ≡ suc m → inside ≤ depth → head_at p whole ≡ Ok head → head.first / 32 ≡ 4
    → item_at fuel depth inside p whole ≡ (items_at m head.argument depth (inside + 1) head.behind whole >>= λ found. Ok (list found.0, found.1))
unfolding item_at
item_list fuel m depth inside p whole head more fine found major =
    let t : nat_lt depth inside ≡ false = le-ltb _ _ fine in
    rw (more, t, found, major) refl

pub item_pairs : (fuel m depth inside p : ℕ) (whole : List ℕ) (head : Head) → fuel ≡ suc m → inside ≤ depth → head_at p whole ≡ Ok head → head.first / 32 ≡ 5
    → item_at fuel depth inside p whole ≡ (pairs_at m head.argument depth (inside + 1) head.behind whole >>= λ found. Ok (pairs found.0, found.1))
unfolding item_at
item_pairs fuel m depth inside p whole head more fine found major =
    let t : nat_lt depth inside ≡ false = le-ltb _ _ fine in
    rw (more, t, found, major) refl

pub item_leaf : (fuel m depth inside p : ℕ) (whole : List ℕ) (head : Head) → fuel ≡ suc m → inside ≤ depth → head_at p whole ≡ Ok head
    → head.first / 32 ≢ 4 → head.first / 32 ≢ 5 → item_at fuel depth inside p whole ≡ leaf_at head whole
unfolding item_at
item_leaf fuel m depth inside p whole head more fine found four five =
    let t : nat_lt depth inside ≡ false = le-ltb _ _ fine in
    let a : (head.first / 32 == 4) ≡ false = ne_eqb _ _ four in
    let b : (head.first / 32 == 5) ≡ false = ne_eqb _ _ five in
    rw (more, t, found, a, b) refl

pub items_none : (fuel n depth inside p : ℕ) (whole : List ℕ) → n ≡ 0 → items_at fuel n depth inside p whole ≡ Ok (no_items, p)
unfolding items_at
items_none zero n depth inside p whole none = rw none refl
items_none (suc fuel) n depth inside p whole none = rw none refl

pub items_more : (fuel m n k depth inside p : ℕ) (whole : List ℕ) → fuel ≡ suc m → n ≡ suc k
    → items_at fuel n depth inside p whole ≡ (item_at m depth inside p whole >>= λ first. items_at m k depth inside first.1 whole >>= λ others.
    Ok (item first.0 others.0, others.1))
unfolding items_at
items_more fuel m n k depth inside p whole more some =
    let less : suc k - 1 ≡ k = omega arith in
    let t : (suc k == 0) ≡ false = ne_eqb _ _ (omega arith) in
    rw (more, some, t, less) refl

pub pairs_none : (fuel n depth inside p : ℕ) (whole : List ℕ) → n ≡ 0 → pairs_at fuel n depth inside p whole ≡ Ok (no_pairs, p)
unfolding pairs_at
pairs_none zero n depth inside p whole none = rw none refl
pairs_none (suc fuel) n depth inside p whole none = rw none refl

pub pairs_more : (fuel m n k depth inside p : ℕ) (whole : List ℕ) → fuel ≡ suc m → n ≡ suc k
    → pairs_at fuel n depth inside p whole ≡ (item_at m depth inside p whole >>= λ key. item_at m depth inside key.1 whole >>= λ value.
    pairs_at m k depth inside value.1 whole >>= λ others. Ok (pair key.0 value.0 others.0, others.1))
unfolding pairs_at
pairs_more fuel m n k depth inside p whole more some =
    let less : suc k - 1 ≡ k = omega arith in
    let t : (suc k == 0) ≡ false = ne_eqb _ _ (omega arith) in
    rw (more, some, t, less) refl

-- a fault of the first step is that of both
pub stops : {A B : Type 0} (e : CborFault) (r : Result A CborFault) (f : A → Result B CborFault) (all : Result B CborFault) → all ≡ (r >>= f)
    → (e ≡ OutOfMemory) ⊎ (r ≡ Err e) → (e ≡ OutOfMemory) ⊎ (all ≡ Err e)
stops e r f all same (inl h) = inl h
stops e r f all same (inr h) = inr (same ∙ ap (λ x. x >>= f) h)
