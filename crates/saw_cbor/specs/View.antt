-- What an item that a program keeps stands for.
use Rattle.std.specs.Prelude.{List, [], ◌∷◌, map}
use Rattle.saw_cbor.specs.Data.{Cbor, unsigned, negative, bytes, text, list, pairs, null, boolean, Items, no_items, item, Pairs, no_pairs, pair}
use Rattle.saw_cbor.specs.Reading as reading
use Rattle.saw_cbor.specs.declared.head.Head.{Head}
use Rattle.saw_cbor.specs.declared.item.Item.{Item, fold-Item}
use Rattle.saw_cbor.specs.declared.item.Item.TheOpen.{Item-F}
use Rattle.saw_cbor.specs.declared.item.Pair.{Pair, Pair-F, fold-Pair}

abbrev pub items_of : List Cbor → Items
items_of [] = no_items
items_of (c ∷ cs) = item c (items_of cs)

abbrev pub pairs_of : List (Cbor × Cbor) → Pairs
pairs_of [] = no_pairs
pairs_of (p ∷ ps) = pair p.0 p.1 (pairs_of ps)

-- one level, with what stands inside already seen
abbrev pub view_step : Item-F Cbor (Cbor × Cbor) → Cbor
view_step (Item-F.Unsigned n) = unsigned n
view_step (Item-F.Negative n) = negative n
view_step (Item-F.Bytes content) = bytes content
view_step (Item-F.Text content) = text content
view_step (Item-F.List items) = list (items_of items.items)
view_step (Item-F.Map ps) = pairs (pairs_of ps.items)
view_step Item-F.Null = null
view_step (Item-F.Bool b) = boolean b

abbrev pub pair_step : Pair-F Cbor (Cbor × Cbor) → Cbor × Cbor
pair_step p = (p.key, p.value)

abbrev pub view : Item → Cbor
view = fold-Item Cbor (Cbor × Cbor) view_step pair_step

abbrev pub pair_view : Pair → Cbor × Cbor
pair_view = fold-Pair Cbor (Cbor × Cbor) view_step pair_step

abbrev pub items_view : List Item → Items
items_view items = items_of (map view items)

abbrev pub pairs_view : List Pair → Pairs
pairs_view ps = pairs_of (map pair_view ps)

abbrev pub head_view : Head → reading.Head
head_view head = record { first = head.first; argument = head.argument; behind = head.behind }
