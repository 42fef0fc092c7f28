-- Which transactions of a list precede which, by what they declare.
use Rattle.std.specs.Prelude.{ℕ, zero, suc, Bool, false, ◌&&◌, ◌||◌, List, [], ◌∷◌, ◌++◌, Option, Some, None, slice_get, if◌then◌else◌}
use Rattle.std.specs.List.{list_any}
use Rattle.std.specs.Str.{bytes_eq}
use Rattle.saw_address.specs.Prefixes.{overlaps}
use Rattle.saw_address.specs.Texts.{is_prefix_text}
use Rattle.saw_messages.specs.TxShapes.{TxShape}

-- two declared texts overlap where one begins the other; a text that is no prefix overlaps nothing
abbrev pub texts_overlap : List ℕ → List ℕ → Bool
texts_overlap first second = (is_prefix_text first && is_prefix_text second) && overlaps first second

abbrev pub some_overlap : List (List ℕ) → List (List ℕ) → Bool
some_overlap texts others = list_any (λ text. list_any (λ other. texts_overlap text other) others) texts

-- the transaction names the other one as a dependency
abbrev pub names_tx : TxShape → TxShape → Bool
names_tx tx other = list_any (λ id. bytes_eq id other.id) tx.header.dependencies

-- an earlier transaction precedes a later one: it writes what that one reads or writes, or reads what it writes, or is
-- named by it
abbrev pub comes_before : TxShape → TxShape → Bool
comes_before earlier later =
    some_overlap earlier.header.outputs later.header.inputs
    || (some_overlap earlier.header.outputs later.header.outputs
    || (some_overlap earlier.header.inputs later.header.outputs || names_tx later earlier))

-- ---- by number

abbrev pub on_tx : Option TxShape → (TxShape → Bool) → Bool
on_tx None test = false
on_tx (Some tx) test = test tx

-- transaction j precedes transaction i, where it comes before it
abbrev pub precedes_in : List TxShape → ℕ → ℕ → Bool
precedes_in txs j i = on_tx (slice_get txs j) (λ earlier. on_tx (slice_get txs i) (λ later. comes_before earlier later))

-- the numbers below n that pass a test, rising
abbrev pub numbers_below : ℕ → (ℕ → Bool) → List ℕ
numbers_below zero test = []
numbers_below (suc n) test = numbers_below n test ++ (if test n then n ∷ [] else [])

-- the numbers of the transactions that precede transaction i
abbrev pub predecessors_in : List TxShape → ℕ → List ℕ
predecessors_in txs i = numbers_below i (λ j. precedes_in txs j i)

-- the transactions of batches, numbered through
abbrev pub all_txs : List (List TxShape) → List TxShape
all_txs [] = []
all_txs (txs ∷ batches) = txs ++ all_txs batches
