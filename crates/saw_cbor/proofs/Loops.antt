-- Reading items, or pairs, one after another, as a loop does.
use Rattle.std.proofs.Common.{◌≡◌, ℕ, suc, ◌⊎◌, inl, inr, List, [], ◌∷◌, ◌++◌, Result, Ok, Err, refl, sym, ap, ◌∙◌}
use Rattle.saw_cbor.specs.declared.fault.CborFault.{CborFault}
use Rattle.saw_cbor.specs.declared.fault.CborFault.TheVariants.{OutOfMemory}
use Rattle.saw_cbor.specs.Data.{Cbor, Items, no_items, item, Pairs, no_pairs, pair}
use Rattle.saw_cbor.specs.Reading.{◌>>=◌, item_at, items_at, pairs_at}
use Rattle.saw_cbor.specs.View.{items_of, pairs_of}
use Rattle.saw_cbor.proofs.Steps.{items_none, items_more, pairs_none, pairs_more}

abbrev pub joined : List Cbor → Items → Items
joined [] rest = rest
joined (c ∷ cs) rest = item c (joined cs rest)

-- what was read before, and what is still read
abbrev pub items_before : List Cbor → Result (Items × ℕ) CborFault → Result (Items × ℕ) CborFault
items_before front read = read >>= λ rest. Ok (joined front rest.0, rest.1)

joined-push : (front : List Cbor) (c : Cbor) (rest : Items) → joined front (item c rest) ≡ joined (front ++ c ∷ []) rest
joined-push [] c rest = refl
joined-push (d ∷ front) c rest = ap (item d) (joined-push front c rest)

joined-none : (front : List Cbor) → joined front no_items ≡ items_of front
joined-none [] = refl
joined-none (d ∷ front) = ap (item d) (joined-none front)

items_regroup : (front : List Cbor) (c : Cbor) (read : Result (Items × ℕ) CborFault)
    → items_before front (read >>= λ others. Ok (item c others.0, others.1)) ≡ items_before (front ++ c ∷ []) read
items_regroup front c (Ok rest) = ap (λ (items : Items). Ok (items, rest.1)) (joined-push front c rest.0)
items_regroup front c (Err e) = refl

pub items_start : (read : Result (Items × ℕ) CborFault) → items_before [] read ≡ read
items_start (Ok rest) = refl
items_start (Err e) = refl

pub items_go_on : (front : List Cbor) (fuel m n k depth inside p : ℕ) (whole : List ℕ) (c : Cbor) (next : ℕ) (total : Result (Items × ℕ) CborFault)
    → fuel ≡ suc m → n ≡ suc k
    → item_at m depth inside p whole ≡ Ok (c, next) → items_before front (items_at fuel n depth inside p whole) ≡ total
    → items_before (front ++ c ∷ []) (items_at m k depth inside next whole) ≡ total
items_go_on front fuel m n k depth inside p whole c next total more some here so_far =
    let one : items_before front (items_at fuel n depth inside p whole) ≡ items_before (front ++ c ∷ []) (items_at m k depth inside next whole) =
    rw (items_more fuel m n k depth inside p whole more some, here) (items_regroup front c (items_at m k depth inside next whole)) in
    sym one ∙ so_far

pub items_stop : (e : CborFault) (front : List Cbor) (fuel m n k depth inside p : ℕ) (whole : List ℕ) (total : Result (Items × ℕ) CborFault)
    → fuel ≡ suc m → n ≡ suc k
    → (e ≡ OutOfMemory) ⊎ (item_at m depth inside p whole ≡ Err e) → items_before front (items_at fuel n depth inside p whole) ≡ total
    → (e ≡ OutOfMemory) ⊎ (total ≡ Err e)
items_stop e front fuel m n k depth inside p whole total more some (inl memory) so_far = inl memory
items_stop e front fuel m n k depth inside p whole total more some (inr here) so_far =
    let one : items_before front (items_at fuel n depth inside p whole) ≡ Err e = rw (items_more fuel m n k depth inside p whole more some, here) refl in
    inr (sym so_far ∙ one)

pub items_done : (front : List Cbor) (fuel n depth inside p : ℕ) (whole : List ℕ) (total : Result (Items × ℕ) CborFault) → n ≡ 0
    → items_before front (items_at fuel n depth inside p whole) ≡ total → total ≡ Ok (items_of front, p)
items_done front fuel n depth inside p whole total none so_far =
    let one : items_before front (items_at fuel n depth inside p whole) ≡ Ok (items_of front, p) =
    rw (items_none fuel n depth inside p whole none, joined-none) refl in
    sym so_far ∙ one

abbrev pub joined_pairs : List (Cbor × Cbor) → Pairs → Pairs
joined_pairs [] rest = rest
joined_pairs (p ∷ ps) rest = pair p.0 p.1 (joined_pairs ps rest)

abbrev pub pairs_before : List (Cbor × Cbor) → Result (Pairs × ℕ) CborFault → Result (Pairs × ℕ) CborFault
pairs_before front read = read >>= λ rest. Ok (joined_pairs front rest.0, rest.1)

joined_pairs-push : (front : List (Cbor × Cbor)) (key value : Cbor) (rest : Pairs)
    → joined_pairs front (pair key value rest) ≡ joined_pairs (front ++ (key, value) ∷ []) rest
joined_pairs-push [] key value rest = refl
joined_pairs-push (p ∷ front) key value rest = ap (pair p.0 p.1) (joined_pairs-push front key value rest)

joined_pairs-none : (front : List (Cbor × Cbor)) → joined_pairs front no_pairs ≡ pairs_of front
joined_pairs-none [] = refl
joined_pairs-none (p ∷ front) = ap (pair p.0 p.1) (joined_pairs-none front)

pairs_regroup : (front : List (Cbor × Cbor)) (key value : Cbor) (read : Result (Pairs × ℕ) CborFault)
    → pairs_before front (read >>= λ others. Ok (pair key value others.0, others.1)) ≡ pairs_before (front ++ (key, value) ∷ []) read
pairs_regroup front key value (Ok rest) = ap (λ (ps : Pairs). Ok (ps, rest.1)) (joined_pairs-push front key value rest.0)
pairs_regroup front key value (Err e) = refl

pub pairs_start : (read : Result (Pairs × ℕ) CborFault) → pairs_before [] read ≡ read
pairs_start (Ok rest) = refl
pairs_start (Err e) = refl

pub pairs_go_on : (front : List (Cbor × Cbor)) (fuel m n k depth inside p : ℕ) (whole : List ℕ) (key : Cbor) (middle : ℕ) (value : Cbor) (next : ℕ)
    (total : Result (Pairs × ℕ) CborFault)
    → fuel ≡ suc m → n ≡ suc k → item_at m depth inside p whole ≡ Ok (key, middle) → item_at m depth inside middle whole ≡ Ok (value, next)
    → pairs_before front (pairs_at fuel n depth inside p whole) ≡ total
    → pairs_before (front ++ (key, value) ∷ []) (pairs_at m k depth inside next whole) ≡ total
pairs_go_on front fuel m n k depth inside p whole key middle value next total more some here there so_far =
    let one : pairs_before front (pairs_at fuel n depth inside p whole) ≡ pairs_before (front ++ (key, value) ∷ []) (pairs_at m k depth inside next whole) =
    rw (pairs_more fuel m n k depth inside p whole more some, here, there) (pairs_regroup front key value (pairs_at m k depth inside next whole)) in
    sym one ∙ so_far

pub pairs_stop : (e : CborFault) (front : List (Cbor × Cbor)) (fuel m n k depth inside p : ℕ) (whole : List ℕ) (total : Result (Pairs × ℕ) CborFault)
    → fuel ≡ suc m → n ≡ suc k
    → (e ≡ OutOfMemory) ⊎ (item_at m depth inside p whole ≡ Err e) → pairs_before front (pairs_at fuel n depth inside p whole) ≡ total
    → (e ≡ OutOfMemory) ⊎ (total ≡ Err e)
pairs_stop e front fuel m n k depth inside p whole total more some (inl memory) so_far = inl memory
pairs_stop e front fuel m n k depth inside p whole total more some (inr here) so_far =
    let one : pairs_before front (pairs_at fuel n depth inside p whole) ≡ Err e = rw (pairs_more fuel m n k depth inside p whole more some, here) refl in
    inr (sym so_far ∙ one)

pub pairs_stop_later : (e : CborFault) (front : List (Cbor × Cbor)) (fuel m n k depth inside p : ℕ) (whole : List ℕ) (key : Cbor) (middle : ℕ)
    (total : Result (Pairs × ℕ) CborFault) → fuel ≡ suc m → n ≡ suc k
    → item_at m depth inside p whole ≡ Ok (key, middle) → (e ≡ OutOfMemory) ⊎ (item_at m depth inside middle whole ≡ Err e)
    → pairs_before front (pairs_at fuel n depth inside p whole) ≡ total → (e ≡ OutOfMemory) ⊎ (total ≡ Err e)
pairs_stop_later e front fuel m n k depth inside p whole key middle total more some here (inl memory) so_far = inl memory
pairs_stop_later e front fuel m n k depth inside p whole key middle total more some here (inr there) so_far =
    let one : pairs_before front (pairs_at fuel n depth inside p whole) ≡ Err e = rw (pairs_more fuel m n k depth inside p whole more some, here, there) refl in
    inr (sym so_far ∙ one)

pub pairs_done : (front : List (Cbor × Cbor)) (fuel n depth inside p : ℕ) (whole : List ℕ) (total : Result (Pairs × ℕ) CborFault) → n ≡ 0
    → pairs_before front (pairs_at fuel n depth inside p whole) ≡ total → total ≡ Ok (pairs_of front, p)
pairs_done front fuel n depth inside p whole total none so_far =
    let one : pairs_before front (pairs_at fuel n depth inside p whole) ≡ Ok (pairs_of front, p) =
    rw (pairs_none fuel n depth inside p whole none, joined_pairs-none) refl in
    sym so_far ∙ one
