-- Digits that are packed two by two.
use Rattle.std.proofs.Common.{◌≡◌, ℕ, ◌+◌, ◌*◌, ◌<◌, ◌≤◌, ◌%◌, List, [], ◌∷◌, ◌++◌, length, take, drop, slice_index, slice_set, refl, sym, ap, ◌∙◌, arith}
use Rattle.std.proofs.lemmas.List.{append-nil, append_assoc, drop_all, take_all, take_more_set}
use Rattle.hex.proofs.Pairs.{drop-pair}
use Rattle.saw_journal.specs.IdKeys.{packed, value_of}

-- the byte of two digits
abbrev pub byte_of : ℕ → ℕ → ℕ
byte_of high low = (16 * value_of high + value_of low) % 256

-- the bytes so far, and what is left to pack, are all
abbrev pub ArePacked : List ℕ → List ℕ → ℕ → Type 0
ArePacked digits bytes i = take i bytes ++ packed (drop (2 * i) digits) ≡ packed digits

-- one pair more is packed
pub packed_more : (digits bytes : List ℕ) (i v : ℕ) → 2 * i + 1 < length digits → i < length bytes
    → v ≡ byte_of (slice_index digits (2 * i)) (slice_index digits (2 * i + 1)) → ArePacked digits bytes i
    → ArePacked digits (slice_set bytes i v) (i + 1)
unfolding packed
packed_more digits bytes i v fits room is so =
    ap (λ front. front ++ packed (drop (2 * (i + 1)) digits)) (take_more_set bytes i v room)
    ∙ append_assoc (take i bytes) (v ∷ []) (packed (drop (2 * (i + 1)) digits))
    ∙ ap (λ v. take i bytes ++ v ∷ packed (drop (2 * (i + 1)) digits)) is
    ∙ ap (λ rest. take i bytes ++ packed rest) (sym (drop-pair digits i fits))
    ∙ so

-- all pairs are packed
pub packed_all : (digits bytes : List ℕ) (i : ℕ) → length bytes ≤ i → length digits ≤ 2 * i → ArePacked digits bytes i → bytes ≡ packed digits
unfolding packed
packed_all digits bytes i done none so =
    sym (ap (λ rest. take i bytes ++ packed rest) (drop_all (2 * i) digits none) ∙ append-nil (take i bytes) ∙ take_all i bytes done) ∙ so
