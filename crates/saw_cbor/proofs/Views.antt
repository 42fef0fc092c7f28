-- What items stand for, level by level.
use Rattle.std.proofs.Common.{◌≡◌, ◌∙◌, ◌++◌, ◌∷◌, [], ℕ, List, Vec, Global, map, ap, rules}
use Rattle.std.proofs.lemmas.List.{map_push}
use Rattle.saw_cbor.specs.Data.{text, list, pairs}
use Rattle.saw_cbor.specs.View.{view, pair_view, items_view, pairs_view}
use Rattle.saw_cbor.specs.declared.item.Item.{Item, Text, List as ListOf, Map, the_lemmas}
use Rattle.saw_cbor.specs.declared.item.Pair.{Pair, Pair-F, roll-Pair}

pub view-Text : (content : List ℕ) → view (Text content) ≡ text content
view-Text content = search (rules, the_lemmas)

pub view-List : (v : Vec Item Global) → view (ListOf v) ≡ list (items_view v.items)
view-List v = search (rules, the_lemmas)

pub view-Map : (v : Vec Pair Global) → view (Map v) ≡ pairs (pairs_view v.items)
view-Map v = search (rules, the_lemmas)

pair_view-roll : (p : Pair-F Item Pair) → pair_view (roll-Pair p) ≡ (view p.key, view p.value)
pair_view-roll p = search (rules, the_lemmas)

pub pair_view-key : (p : Pair) → (pair_view p).0 ≡ view p.key
pair_view-key p = search (rules, the_lemmas)

pub pair_view-value : (p : Pair) → (pair_view p).1 ≡ view p.value
pair_view-value p = search (rules, the_lemmas)

-- one more pair behind those before
pub push_pair : (front : List Pair) (key value : Item) → map pair_view (front ++ roll-Pair (record { key = key; value = value }) ∷ [])
    ≡ map pair_view front ++ (view key, view value) ∷ []
push_pair front key value =
    let made : Pair-F Item Pair = record { key = key; value = value } in
    map_push pair_view front (roll-Pair made) ∙ ap (λ p. map pair_view front ++ p ∷ []) (pair_view-roll made)
