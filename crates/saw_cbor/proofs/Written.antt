-- What is written for an item spells it, and is read as it.
use Rattle.std.proofs.Common.{◌≡◌, ℕ, ◌^◌, ◌<◌, ◌≤◌, inl, inr, true, false, [], ◌∷◌, length, Ok, refl, sym, ◌∙◌, append_assoc, arith}
use Rattle.std.specs.Prelude.{nat_lt}
use Rattle.std.specs.Int.{w16, w32, w64, to_be_bytes, from_be_bytes}
use Rattle.std.proofs.lemmas.Bool.{cases_lt, lt-ltb, le-ltb}
use Rattle.std.proofs.lemmas.Nat.{from_be_bytes-to_be_bytes_2, from_be_bytes-to_be_bytes_4, from_be_bytes-to_be_bytes_8}
use Rattle.saw_cbor.specs.Data.{Cbor, unsigned, negative, bytes, text, list, pairs, null, boolean, Items, no_items, item, Pairs, no_pairs, pair}
use Rattle.saw_cbor.specs.Data.{items_count, pairs_count, nesting}
use Rattle.saw_cbor.specs.Reading.{reading}
use Rattle.saw_cbor.specs.Spelling.{number_of, IsHead, Spells, SpellsItems, SpellsPairs}
use Rattle.saw_cbor.specs.Writing.{head, written, items_written, pairs_written, IsHeld, AreHeld, ArePairsHeld}
use Rattle.saw_cbor.proofs.Again.{reading_again}

number_2 : (a b : ℕ) → number_of (a ∷ b ∷ []) ≡ from_be_bytes w16 (a ∷ b ∷ [])
number_2 a b = omega arith

number_4 : (a b c d : ℕ) → number_of (a ∷ b ∷ c ∷ d ∷ []) ≡ from_be_bytes w32 (a ∷ b ∷ c ∷ d ∷ [])
number_4 a b c d = omega arith

number_8 : (a b c d e f g h : ℕ) → number_of (a ∷ b ∷ c ∷ d ∷ e ∷ f ∷ g ∷ h ∷ []) ≡ from_be_bytes w64 (a ∷ b ∷ c ∷ d ∷ e ∷ f ∷ g ∷ h ∷ [])
number_8 a b c d e f g h = omega arith

head_is : (major n : ℕ) → n < 2 ^ 64 → IsHead major n (head major n)
unfolding head
head_is major n fits =
    elim (cases_lt n 24) [
      | inl low ↦ let a : nat_lt n 24 ≡ true = lt-ltb _ _ low in rw a (record { info = n; rest = []; parts = refl; argument = inl (low, refl, refl) })
      | inr high ↦
          let a : nat_lt n 24 ≡ false = le-ltb _ _ high in
          elim (cases_lt n (2 ^ 8)) [
            | inl low ↦ let b : nat_lt n (2 ^ 8) ≡ true = lt-ltb _ _ low in
                rw (a, b) (record { info = 24; rest = n ∷ []; parts = refl; argument = inr (inl (refl, refl), omega arith) })
            | inr one ↦
                let b : nat_lt n (2 ^ 8) ≡ false = le-ltb _ _ one in
                elim (cases_lt n (2 ^ 16)) [
                  | inl low ↦
                      let c : nat_lt n (2 ^ 16) ≡ true = lt-ltb _ _ low in
                      rw (a, b, c) (record {
                        info = 25;
                        rest = to_be_bytes w16 n;
                        parts = refl;
                        argument =
                            inr (inr (inl (refl, refl)), sym (number_2 _ _ ∙ from_be_bytes-to_be_bytes_2 n low));
                      })
                  | inr two ↦
                      let c : nat_lt n (2 ^ 16) ≡ false = le-ltb _ _ two in
                      elim (cases_lt n (2 ^ 32)) [
                        | inl low ↦
                            let d : nat_lt n (2 ^ 32) ≡ true = lt-ltb _ _ low in
                            rw (a, b, c, d) (record {
                              info = 26;
                              rest = to_be_bytes w32 n;
                              parts = refl;
                              argument =
                                  inr (inr (inr (inl (refl, refl))), sym (number_4 _ _ _ _ ∙ from_be_bytes-to_be_bytes_4 n low));
                            })
                        | inr four ↦
                            let d : nat_lt n (2 ^ 32) ≡ false = le-ltb _ _ four in
                            rw (a, b, c, d) (record {
                              info = 27;
                              rest = to_be_bytes w64 n;
                              parts = refl;
                              argument =
                                  inr (inr (inr (inr (refl, refl))), sym (number_8 _ _ _ _ _ _ _ _ ∙ from_be_bytes-to_be_bytes_8 n fits));
                            })
                      ]
                ]
          ]
    ]

mutual
  pub spelled_is : (c : Cbor) → IsHeld c → Spells c (written c)
  spelled_is (unsigned n) held = head_is 0 n held
  spelled_is (negative n) held = head_is 1 n held
  spelled_is (bytes content) held = (head 2 (length content), head_is 2 (length content) held, refl)
  spelled_is (text content) held = ((head 3 (length content), head_is 3 (length content) held.0, refl), held.1)
  spelled_is (list items) held = (items_written items, (head 4 (items_count items), head_is 4 (items_count items) held.0, refl), items_spelled items held.1)
  spelled_is (pairs ps) held = (pairs_written ps, (head 5 (pairs_count ps), head_is 5 (pairs_count ps) held.0, refl), pairs_spelled ps held.1)
  spelled_is null held = refl
  spelled_is (boolean false) held = refl
  spelled_is (boolean true) held = refl

  items_spelled : (items : Items) → AreHeld items → SpellsItems items (items_written items)
  items_spelled no_items held = refl
  items_spelled (item c rest) held = (written c, items_written rest, spelled_is c held.0, items_spelled rest held.1, refl)

  pairs_spelled : (ps : Pairs) → ArePairsHeld ps → SpellsPairs ps (pairs_written ps)
  pairs_spelled no_pairs held = refl
  pairs_spelled (pair key value rest) held = (
    written key,
    written value,
    pairs_written rest,
    spelled_is key held.0,
    spelled_is value held.1,
    pairs_spelled rest held.2,
    append_assoc (written key) (written value) (pairs_written rest),
  )

pub written_back : (depth : ℕ) (c : Cbor) → IsHeld c → nesting c ≤ depth → reading depth (written c) ≡ Ok c
written_back depth c held fine = reading_again depth c (written c) (spelled_is c held) fine
