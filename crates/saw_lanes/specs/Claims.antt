-- Which batch declares which texts, as a list of claims: a text's number with a batch's.
use Rattle.std.specs.Prelude.{◌≡◌, ℕ, ◌+◌, Bool, true, ◌&&◌, List, [], ◌∷◌, length, ◌==◌, slice_index}
use Rattle.std.specs.Int.{from_le_bytes, w64}
use Rattle.std.specs.List.{list_all}
use Rattle.saw_messages.specs.TxShapes.{TxShape}

-- the number by which a text of 70 bytes is known: eight of its bytes
abbrev pub key_in : List ℕ → ℕ
key_in text = from_le_bytes w64 (slice_index text 6 ∷ slice_index text 7 ∷ slice_index text 8 ∷ slice_index text 9
    ∷ slice_index text 10 ∷ slice_index text 11 ∷ slice_index text 12 ∷ slice_index text 13 ∷ [])

-- a text of 70 bytes, whose claim for this batch passes
abbrev pub is_claimed : (ℕ × ℕ → Bool) → ℕ → List ℕ → Bool
is_claimed passes batch text = length text == 70 && passes (key_in text, batch)

-- a transaction that names no other, each of whose texts is claimed
abbrev pub is_tx_claimed : (ℕ × ℕ → Bool) → ℕ → TxShape → Bool
is_tx_claimed passes batch tx = length tx.header.dependencies == 0
    && list_all (is_claimed passes batch) tx.header.inputs && list_all (is_claimed passes batch) tx.header.outputs

-- each transaction of each batch is claimed, where the batches are numbered from here on
abbrev pub are_claimed : (ℕ × ℕ → Bool) → ℕ → List (List TxShape) → Bool
are_claimed passes batch [] = true
are_claimed passes batch (txs ∷ batches) = list_all (is_tx_claimed passes batch) txs && are_claimed passes (batch + 1) batches

-- the new claims hold the old ones, and what else is claimed: a test that all of them pass
abbrev pub Adds : List (ℕ × ℕ) → List (ℕ × ℕ) → ((ℕ × ℕ → Bool) → Bool) → Type 0
Adds old new claimed = (passes : ℕ × ℕ → Bool) → list_all passes new ≡ true → (list_all passes old ≡ true) × (claimed passes ≡ true)
