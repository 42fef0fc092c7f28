-- Lanes in which all claims of batches stay apart keep the batches apart.
use Rattle.std.proofs.Common.{◌≡◌, ℕ, ◌+◌, ◌*◌, ◌<◌, ◌≤◌, ◌==◌, ◌&&◌, nat_eq, nat_lt, nat_le, Bool, true, false, List, [], ◌∷◌, length, take, drop, refl, sym, ap, ◌∙◌, arith, true≢false}
use Rattle.std.proofs.lemmas.Bool.Decides.{nat_tests}
use Rattle.std.specs.List.{AllByRecursion, list_all, starts_with}
use Rattle.std.specs.List.Sorted.{IsPermutation}
use Rattle.std.proofs.Math.Seq.{take-length}
use Rattle.std.proofs.lemmas.Bool.{and_from, and_parts, eqb-true, eq-eqb}
use Rattle.std.proofs.lemmas.List.{drop_more}
use Rattle.std.proofs.lemmas.List.Sorted.{All-permutation, IsPermutation-sym}
use Rattle.std.proofs.lemmas.List.Sums.{AllPass-from_list_all, list_all-from_AllPass}
use Rattle.hex.specs.Hex.{encode_lower, encode_with}
use Rattle.saw_address.specs.Maps.{is_address}
use Rattle.saw_address.specs.Texts.{is_prefix_text}
use Rattle.saw_address.proofs.Covering.{take-covers}
use Rattle.saw_messages.specs.TxShapes.{TxShape}
use Rattle.saw_context.specs.Conversation.{are_covering, text_covers}
use Rattle.saw_context.specs.Lanes.{AreOf, KeepToLanes, KeepsToLane}
use Rattle.saw_lanes.specs.Apart.{are_apart, lane_at, lane_of_number, stays_apart}
use Rattle.saw_lanes.specs.Claims.{are_claimed, is_claimed, is_tx_claimed, key_in}
use Rattle.saw_lanes.specs.Lanes.{AreLanes}

-- ---- each claim's number has the claim's lane

list_all_weaker : {X : Type 0} (p q : X → Bool) → ((x : X) → p x ≡ true → q x ≡ true) → (xs : List X) → list_all p xs ≡ true → list_all q xs ≡ true
list_all_weaker p q f [] all = refl
list_all_weaker p q f (x ∷ xs) all =
    let parts = and_parts (p x) (list_all p xs) all in
    and_from (q x) (list_all q xs) (f x parts.0) (list_all_weaker p q f xs parts.1)

same_number : (number lane next its : ℕ) → stays_apart number lane next its ≡ true → nat_lt number next ≡ false → (next ≡ number) × (its ≡ lane)
same_number number lane next its apart stays =
    let parts = and_parts (next == number) (its == lane) (rw stays at apart) in
    (eqb-true next number parts.0, eqb-true its lane parts.1)

not_lower : (number lane next its : ℕ) → stays_apart number lane next its ≡ true → number ≤ next
not_lower number lane next its apart = go (nat_lt number next) refl
  where
    go : (b : Bool) → nat_lt number next ≡ b → number ≤ next
    go true lower = grind (arith, nat_tests)
    go false stays = let same = (same_number number lane next its apart stays).0 in omega (arith, same)

-- the number before all claims has the lane before them
before_all : (lanes : List ℕ) (number lane : ℕ) (claims : List (ℕ × ℕ)) → are_apart lanes number lane claims ≡ true → lane_of_number lanes lane claims number ≡ lane
before_all lanes number lane [] apart = refl
before_all lanes number lane (claim ∷ claims) apart = go (nat_lt number claim.0) refl (before_all lanes claim.0 its claims parts.1)
  where
    its : ℕ
    its = lane_at lanes claim.1

    parts : (stays_apart number lane claim.0 its ≡ true) × (are_apart lanes claim.0 its claims ≡ true)
    parts = and_parts (stays_apart number lane claim.0 its) (are_apart lanes claim.0 its claims) apart

    go : (b : Bool) → nat_lt number claim.0 ≡ b → lane_of_number lanes its claims claim.0 ≡ its → lane_of_number lanes lane (claim ∷ claims) number ≡ lane
    go true lower next = rw lower refl
    go false stays next =
        let same = same_number number lane claim.0 its parts.0 stays in
        rw stays (ap (lane_of_number lanes its claims) (sym same.0) ∙ (next ∙ same.1))

-- the claim's number is not below, and has its lane
is_kept : List ℕ → ℕ → ℕ → List (ℕ × ℕ) → ℕ × ℕ → Bool
is_kept lanes number lane claims claim = nat_le number claim.0 && lane_of_number lanes lane claims claim.0 == lane_at lanes claim.1

are_kept : (lanes : List ℕ) (number lane : ℕ) (claims : List (ℕ × ℕ)) → are_apart lanes number lane claims ≡ true → list_all (is_kept lanes number lane claims) claims ≡ true
unfolding is_kept
are_kept lanes number lane [] apart = refl
are_kept lanes number lane (claim ∷ claims) apart =
    and_from (is_kept lanes number lane (claim ∷ claims) claim) (list_all (is_kept lanes number lane (claim ∷ claims)) claims)
    (and_from (nat_le number claim.0) (lane_of_number lanes lane (claim ∷ claims) claim.0 == its) (le low)
    (rw (not_below claim.0 claim.0 itself) (eq-eqb (lane_of_number lanes its claims claim.0) its (before_all lanes claim.0 its claims parts.1))))
    (list_all_weaker (is_kept lanes claim.0 its claims) (is_kept lanes number lane (claim ∷ claims)) later claims (are_kept lanes claim.0 its claims parts.1))
  where
    its : ℕ
    its = lane_at lanes claim.1

    parts : (stays_apart number lane claim.0 its ≡ true) × (are_apart lanes claim.0 its claims ≡ true)
    parts = and_parts (stays_apart number lane claim.0 its) (are_apart lanes claim.0 its claims) apart

    low : number ≤ claim.0
    low = not_lower number lane claim.0 its parts.0

    itself : claim.0 ≤ claim.0
    itself = omega arith

    le : {a b : ℕ} → a ≤ b → nat_le a b ≡ true
    le h = grind (arith, nat_tests)

    not_below : (a b : ℕ) → b ≤ a → nat_lt a b ≡ false
    not_below a b h = grind (arith, nat_tests)

    later : (other : ℕ × ℕ) → is_kept lanes claim.0 its claims other ≡ true → is_kept lanes number lane (claim ∷ claims) other ≡ true
    later other kept =
        let halves = and_parts (nat_le claim.0 other.0) (lane_of_number lanes its claims other.0 == lane_at lanes other.1) kept in
        let above : claim.0 ≤ other.0 = le_from claim.0 other.0 halves.0 in
        and_from (nat_le number other.0) (lane_of_number lanes lane (claim ∷ claims) other.0 == lane_at lanes other.1)
        (le (omega (arith, low, above))) (rw (not_below other.0 claim.0 above) halves.1)
      where
        le_from : (a b : ℕ) → nat_le a b ≡ true → a ≤ b
        le_from a b h = grind (arith, nat_tests)

-- ---- a text of 70 bytes that covers an address is the address's own

length-encode : (bytes : List ℕ) → length (encode_lower bytes) ≡ 2 * length bytes
unfolding encode_with
length-encode [] = refl
length-encode (x ∷ bytes) = let more = length-encode bytes in omega (arith, more)

whole_text : (text at : List ℕ) → length text ≡ 70 → is_address at ≡ true → text_covers text at ≡ true → text ≡ encode_lower at
whole_text text at long address covers =
    let size : length at ≡ 35 = eqb-true (length at) 35 (and_parts (length at == 35) _ address).0 in
    let same : length text ≡ length (encode_lower at) = long ∙ sym (length-encode at ∙ ap (λ n. 2 * n) size) in
    let begins = (and_parts (is_prefix_text text) (starts_with nat_eq (encode_lower at) text) covers).1 in
    sym (take-covers text (encode_lower at) begins) ∙ (ap (λ n. take n (encode_lower at)) same ∙ take-length (encode_lower at))

-- ---- what is claimed is kept

module _ (lanes : List ℕ) (claims : List (ℕ × ℕ)) where
  owner : List ℕ → ℕ
  owner at = lane_of_number lanes 0 claims (key_in (encode_lower at))

  passes : ℕ × ℕ → Bool
  passes claim = lane_of_number lanes 0 claims claim.0 == lane_at lanes claim.1

  owner_of : (batch : ℕ) (text at : List ℕ) → is_claimed passes batch text ≡ true → is_address at ≡ true → text_covers text at ≡ true → owner at ≡ lane_at lanes batch
  unfolding owner passes
  owner_of batch text at claimed address covers =
      let parts = and_parts (length text == 70) (passes (key_in text, batch)) claimed in
      let whole = whole_text text at (eqb-true (length text) 70 parts.0) address covers in
      ap (λ some. lane_of_number lanes 0 claims (key_in some)) (sym whole) ∙ eqb-true (lane_of_number lanes 0 claims (key_in text)) (lane_at lanes batch) parts.1

  owner_of_all : (batch : ℕ) (texts : List (List ℕ)) → list_all (is_claimed passes batch) texts ≡ true → AreOf owner (lane_at lanes batch) texts
  owner_of_all batch [] claimed at address covers = absurd (true≢false (sym covers))
  owner_of_all batch (text ∷ texts) claimed at address covers = go (text_covers text at) refl (owner_of_all batch texts parts.1 at address)
    where
      parts : (is_claimed passes batch text ≡ true) × (list_all (is_claimed passes batch) texts ≡ true)
      parts = and_parts (is_claimed passes batch text) (list_all (is_claimed passes batch) texts) claimed

      go : (b : Bool) → text_covers text at ≡ b → (are_covering texts at ≡ true → owner at ≡ lane_at lanes batch) → owner at ≡ lane_at lanes batch
      go true this others = owner_of batch text at parts.0 address this
      go false other others = others (rw other at covers)

  none : (texts : List (List ℕ)) → (length texts == 0) ≡ true → texts ≡ []
  none [] e = refl
  none (text ∷ texts) e = let zero = eqb-true (length (text ∷ texts)) 0 e in absurd (omega (arith, zero))

  tx_keeps : (batch : ℕ) (tx : TxShape) → is_tx_claimed passes batch tx ≡ true → KeepsToLane owner (lane_at lanes batch) tx
  tx_keeps batch tx claimed =
      let alone = length tx.header.dependencies == 0 in
      let inputs = list_all (is_claimed passes batch) tx.header.inputs in
      let two = and_parts (alone && inputs) (list_all (is_claimed passes batch) tx.header.outputs) claimed in
      let one = and_parts alone inputs two.0 in
      record {
        alone = none tx.header.dependencies one.0;
        inputs = owner_of_all batch tx.header.inputs one.1;
        outputs = owner_of_all batch tx.header.outputs two.1;
      }

  txs_keep : (batch : ℕ) (txs : List TxShape) → list_all (is_tx_claimed passes batch) txs ≡ true → AllByRecursion (KeepsToLane owner (lane_at lanes batch)) txs
  txs_keep batch [] claimed = tt
  txs_keep batch (tx ∷ txs) claimed =
      let parts = and_parts (is_tx_claimed passes batch tx) (list_all (is_tx_claimed passes batch) txs) claimed in
      (tx_keeps batch tx parts.0, txs_keep batch txs parts.1)

  batches_keep : (batch : ℕ) (batches : List (List TxShape)) → length lanes ≡ batch + length batches → are_claimed passes batch batches ≡ true
      → KeepToLanes owner (drop batch lanes) batches
  batches_keep batch [] all claimed = go (drop batch lanes)
    where
      go : (left : List ℕ) → KeepToLanes owner left []
      go [] = tt
      go (lane ∷ left) = tt
  batches_keep batch (txs ∷ batches) all claimed =
      let parts = and_parts (list_all (is_tx_claimed passes batch) txs) (are_claimed passes (batch + 1) batches) claimed in
      let inside : batch < length lanes = omega (arith, all) in
      rw (drop_more lanes batch 0 inside) (txs_keep batch txs parts.0, batches_keep (batch + 1) batches (omega (arith, all)) parts.1)

-- a list of lanes in which the sorted claims stay apart
pub are_lanes : (claims sorted : List (ℕ × ℕ)) (lanes : List ℕ) (batches : List (List TxShape))
    → ((passes : ℕ × ℕ → Bool) → list_all passes claims ≡ true → are_claimed passes 0 batches ≡ true)
    → IsPermutation claims sorted → are_apart lanes 0 0 sorted ≡ true → length lanes ≡ length batches → AreLanes batches lanes
unfolding passes is_kept
are_lanes claims sorted lanes batches claimed moved apart long =
    let test = passes lanes sorted in
    let kept = list_all_weaker (is_kept lanes 0 0 sorted) test (λ claim h. (and_parts (nat_le 0 claim.0) (test claim) h).1) sorted (are_kept lanes 0 0 sorted apart) in
    let all = list_all-from_AllPass test claims (All-permutation (λ claim. test claim ≡ true) sorted claims (IsPermutation-sym claims sorted moved) (AllPass-from_list_all test sorted kept)) in
    record {
      owner = owner lanes sorted;
      keep = batches_keep lanes sorted 0 batches (omega (arith, long)) (claimed test all);
      all = long;
    }
