-- Items, or pairs, written one after another, as a loop does.
use Rattle.std.proofs.Common.{◌≡◌, ℕ, ◌+◌, ◌<◌, ◌≤◌, List, [], ◌∷◌, ◌++◌, length, get_or, drop, refl, sym, ap, ◌∙◌, append_assoc, arith}
use Rattle.std.proofs.lemmas.List.{append-nil, drop_more, drop_all}
use Rattle.saw_cbor.specs.Data.{Cbor, list, pairs, items_count, pairs_count}
use Rattle.saw_cbor.specs.View.{view, pair_view, items_view, pairs_view}
use Rattle.saw_cbor.specs.Writing.{head, written, items_written, pairs_written}
use Rattle.saw_cbor.specs.declared.item.Item.{Item}
use Rattle.saw_cbor.specs.declared.item.Pair.{Pair}

pub items_count-items_view : (items : List Item) → items_count (items_view items) ≡ length items
items_count-items_view [] = refl
items_count-items_view (item ∷ items) = omega (arith, items_count-items_view items)

pub pairs_count-pairs_view : (ps : List Pair) → pairs_count (pairs_view ps) ≡ length ps
pairs_count-pairs_view [] = refl
pairs_count-pairs_view (p ∷ ps) = omega (arith, pairs_count-pairs_view ps)

pub items_put : (items : List Item) (i : ℕ) (item : Item) (out new total : List ℕ) → i < length items → item ≡ get_or items i item
    → new ≡ out ++ written (view item)
    → out ++ items_written (items_view (drop i items)) ≡ total → new ++ items_written (items_view (drop (i + 1) items)) ≡ total
items_put items i item out new total lt here put so_far =
    let rest = drop (i + 1) items in
    let cut : drop i items ≡ item ∷ rest = drop_more items i item lt ∙ ap (λ x. x ∷ rest) (sym here) in
    rw put (append_assoc out (written (view item)) (items_written (items_view rest)) ∙ ap (λ xs. out ++ items_written (items_view xs)) (sym cut) ∙ so_far)

pub items_all_put : (items : List Item) (i : ℕ) (out total : List ℕ) → length items ≤ i → out ++ items_written (items_view (drop i items)) ≡ total → out ≡ total
items_all_put items i out total past so_far = sym (append-nil out) ∙ ap (λ xs. out ++ items_written (items_view xs)) (sym (drop_all i items past)) ∙ so_far

pub pairs_put : (ps : List Pair) (i : ℕ) (p : Pair) (out middle new total : List ℕ) → i < length ps → p ≡ get_or ps i p
    → middle ≡ out ++ written (pair_view p).0 → new ≡ middle ++ written (pair_view p).1
    → out ++ pairs_written (pairs_view (drop i ps)) ≡ total → new ++ pairs_written (pairs_view (drop (i + 1) ps)) ≡ total
pairs_put ps i p out middle new total lt here key value so_far =
    let rest = drop (i + 1) ps in
    let cut : drop i ps ≡ p ∷ rest = drop_more ps i p lt ∙ ap (λ x. x ∷ rest) (sym here) in
    let whole : out ++ pairs_written (pairs_view (p ∷ rest)) ≡ total = ap (λ xs. out ++ pairs_written (pairs_view xs)) (sym cut) ∙ so_far in
    rw (value, key) (simp append_assoc (simp append_assoc at whole))

pub pairs_all_put : (ps : List Pair) (i : ℕ) (out total : List ℕ) → length ps ≤ i → out ++ pairs_written (pairs_view (drop i ps)) ≡ total → out ≡ total
pairs_all_put ps i out total past so_far = sym (append-nil out) ∙ ap (λ xs. out ++ pairs_written (pairs_view xs)) (sym (drop_all i ps past)) ∙ so_far

-- a list is written as its head and its items
pub list_put : (c : Cbor) (items slice : List Item) (n count : ℕ) (old middle new : List ℕ) → c ≡ list (items_view items) → slice ≡ items
    → length slice ≡ count → n ≡ count
    → middle ≡ old ++ head 4 n → new ≡ middle ++ items_written (items_view slice) → new ≡ old ++ written c
list_put c items slice n count old middle new seen same long counted first others =
    let number : n ≡ items_count (items_view items) = counted ∙ sym long ∙ ap length same ∙ sym (items_count-items_view items) in
    rw (others, first, same, seen, number) (append_assoc old (head 4 (items_count (items_view items))) (items_written (items_view items)))

pub map_put : (c : Cbor) (ps slice : List Pair) (n count : ℕ) (old middle new : List ℕ) → c ≡ pairs (pairs_view ps) → slice ≡ ps
    → length slice ≡ count → n ≡ count
    → middle ≡ old ++ head 5 n → new ≡ middle ++ pairs_written (pairs_view slice) → new ≡ old ++ written c
map_put c ps slice n count old middle new seen same long counted first others =
    let number : n ≡ pairs_count (pairs_view ps) = counted ∙ sym long ∙ ap length same ∙ sym (pairs_count-pairs_view ps) in
    rw (others, first, same, seen, number) (append_assoc old (head 5 (pairs_count (pairs_view ps))) (pairs_written (pairs_view ps)))
