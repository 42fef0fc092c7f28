-- What spells an item is read as it.
use Rattle.std.proofs.Common.{◌≡◌, ◌≢◌, ℕ, ◌+◌, ◌-◌, ◌*◌, ◌/◌, ◌%◌, ◌<◌, ◌≤◌, true, false, max, List, [], ◌∷◌, ◌++◌, length, drop, Ok, refl, sym, ap}
use Rattle.std.proofs.Common.{◌∙◌, append_assoc, arith}
use Rattle.std.specs.Prelude.{nat_lt}
use Rattle.std.proofs.lemmas.Bool.{le-ltb}
use Rattle.std.proofs.lemmas.List.{append-nil, length-append}
use Rattle.saw_cbor.specs.Data.{Cbor, unsigned, negative, bytes, text, list, pairs, null, boolean, Items, no_items, item, Pairs, no_pairs, pair}
use Rattle.saw_cbor.specs.Data.{items_count, pairs_count, nesting, items_nesting, pairs_nesting}
use Rattle.saw_cbor.specs.Reading.{Head, is_unsupported, argument_size, leaf_at, item_at, items_at, pairs_at, reading}
use Rattle.saw_cbor.specs.Spelling.{IsHead, Spells, SpellsItems, SpellsPairs}
use Rattle.saw_cbor.proofs.Results.{ok_is}
use Rattle.saw_cbor.proofs.Cuts.{behind}
use Rattle.saw_cbor.proofs.Heads.{head_step, head_again, major_is, head_some}
use Rattle.saw_cbor.proofs.Leaves.{unsigned_is, negative_is, bytes_are, text_is, null_is, false_is, true_is, content_again}
use Rattle.saw_cbor.proofs.Steps.{item_list, item_pairs, item_leaf, items_none, items_more, pairs_none, pairs_more}

-- the item of a head that is no container
leaf_again : (c : Cbor) (major n fuel depth inside p end : ℕ) (whole front left : List ℕ) → major < 4 → p ≤ length whole
    → drop p whole ≡ front ++ left → (is : IsHead major n front) → inside ≤ depth → 0 < fuel
    → leaf_at (record { first = major * 32 + is.info; argument = n; behind = p + length front }) whole ≡ Ok (c, end)
    → item_at fuel depth inside p whole ≡ Ok (c, end)
leaf_again c major n fuel depth inside p end whole front left low le parts is fine more read =
    let head : Head = record { first = major * 32 + is.info; argument = n; behind = p + length front } in
    let k = major_is major n front is in
    let four : head.first / 32 ≢ 4 = omega (arith, k) in
    let five : head.first / 32 ≢ 5 = omega (arith, k) in
    item_leaf fuel (fuel - 1) depth inside p whole head (omega arith) fine (head_again p major n whole front left (omega arith) le parts is) four five ∙ read

-- an item that is one byte
byte_again : (c : Cbor) (first fuel depth inside p : ℕ) (whole front left : List ℕ) → p ≤ length whole → drop p whole ≡ front ++ left
    → front ≡ first ∷ [] → inside ≤ depth → 0 < fuel
    → is_unsupported first ≡ false → argument_size (first % 32) ≡ 0 → first / 32 ≢ 4 → first / 32 ≢ 5
    → ((head : Head) → head.first ≡ first → leaf_at head whole ≡ Ok (c, head.behind)) → item_at fuel depth inside p whole ≡ Ok (c, p + length front)
byte_again c first fuel depth inside p whole front left le parts is fine more supported none four five read =
    let shown : drop p whole ≡ first ∷ left = parts ∙ ap (λ (v : List ℕ). v ++ left) is in
    let b = behind p whole front left le parts in
    let long : length front ≡ 1 = ap (λ (v : List ℕ). length v) is in
    let found = head_step p first 0 whole left shown supported none (omega (arith, b.1)) in
    let end : p + 1 + 0 ≡ p + length front = omega arith in
    item_leaf fuel (fuel - 1) depth inside p whole _ (omega arith) fine found four five ∙ read _ refl ∙ rw end refl

some_bytes : (c : Cbor) (front : List ℕ) → Spells c front → 0 < length front
some_bytes (unsigned n) front is = head_some 0 n front is
some_bytes (negative n) front is = head_some 1 n front is
some_bytes (bytes content) front is = omega (arith, head_some 2 (length content) is.0 is.1, length-append is.0 content, ap (λ (v : List ℕ). length v) is.2)
some_bytes (text content) front is = omega (
  arith,
  head_some 3 (length content) is.0.0 is.0.1,
  length-append is.0.0 content,
  ap
      (λ (v : List ℕ). length v) is.0.2,
)
some_bytes (list items) front is = omega (arith, head_some 4 (items_count items) is.1.0 is.1.1, length-append is.1.0 is.0, ap (λ (v : List ℕ). length v) is.1.2)
some_bytes (pairs ps) front is = omega (arith, head_some 5 (pairs_count ps) is.1.0 is.1.1, length-append is.1.0 is.0, ap (λ (v : List ℕ). length v) is.1.2)
some_bytes null front is = rw is (omega arith)
some_bytes (boolean false) front is = rw is (omega arith)
some_bytes (boolean true) front is = rw is (omega arith)

mutual
  pub item_again : (c : Cbor) (fuel depth inside p : ℕ) (whole front left : List ℕ) → p ≤ length whole → drop p whole ≡ front ++ left → Spells c front
      → nesting c + inside ≤ depth → 2 * (length whole - p) + 1 ≤ fuel
      → item_at fuel depth inside p whole ≡ Ok (c, p + length front)
  item_again (unsigned n) fuel depth inside p whole front left le parts is fine more =
      leaf_again (unsigned n) 0 n fuel depth inside p (p + length front) whole front left (omega arith) le parts is (omega arith) (omega arith)
      (unsigned_is _ whole (major_is 0 n front is))
  item_again (negative n) fuel depth inside p whole front left le parts is fine more =
      leaf_again (negative n) 1 n fuel depth inside p (p + length front) whole front left (omega arith) le parts is (omega arith) (omega arith)
      (negative_is _ whole (major_is 1 n front is))
  item_again (bytes content) fuel depth inside p whole front left le parts is fine more =
      let h = is.0 in
      let split : drop p whole ≡ h ++ (content ++ left) = parts ∙ ap (λ (v : List ℕ). v ++ left) is.2 ∙ append_assoc h content left in
      let b = behind p whole h (content ++ left) le split in
      let found = content_again (p + length h) (length content) whole content left b.1 b.0 refl in
      let end : p + length h + length content ≡ p + length front = omega (arith, length-append h content, ap (λ (v : List ℕ). length v) is.2) in
      leaf_again (bytes content) 2 (length content) fuel depth inside p (p + length front) whole h (content ++ left) (omega arith) le split is.1
      (omega arith) (omega arith)
      (bytes_are _ whole (major_is 2 (length content) h is.1) ∙ rw (found, end) refl)
  item_again (text content) fuel depth inside p whole front left le parts (is, utf8) fine more =
      let h = is.0 in
      let split : drop p whole ≡ h ++ (content ++ left) = parts ∙ ap (λ (v : List ℕ). v ++ left) is.2 ∙ append_assoc h content left in
      let b = behind p whole h (content ++ left) le split in
      let found = content_again (p + length h) (length content) whole content left b.1 b.0 refl in
      let end : p + length h + length content ≡ p + length front = omega (arith, length-append h content, ap (λ (v : List ℕ). length v) is.2) in
      leaf_again (text content) 3 (length content) fuel depth inside p (p + length front) whole h (content ++ left) (omega arith) le split is.1
      (omega arith) (omega arith)
      (text_is _ whole content (p + length h + length content) (major_is 3 (length content) h is.1) found utf8 ∙ rw end refl)
  item_again (list items) fuel depth inside p whole front left le parts is fine more =
      let content = is.0 in
      let h = is.1.0 in
      let split : drop p whole ≡ h ++ (content ++ left) = parts ∙ ap (λ (v : List ℕ). v ++ left) is.1.2 ∙ append_assoc h content left in
      let b = behind p whole h (content ++ left) le split in
      let some = head_some 4 (items_count items) h is.1.1 in
      let found = items_again items (fuel - 1) depth (inside + 1) (p + length h) whole content left b.1 b.0 is.2 (omega arith) (omega (arith, b.1)) in
      let end : p + length h + length content ≡ p + length front = omega (arith, length-append h content, ap (λ (v : List ℕ). length v) is.1.2) in
      item_list fuel (fuel - 1) depth inside p whole _ (omega arith) (omega arith)
      (head_again p 4 (items_count items) whole h (content ++ left) (omega arith) le split is.1.1) (major_is 4 (items_count items) h is.1.1)
      ∙ rw (found, end) refl
  item_again (pairs ps) fuel depth inside p whole front left le parts is fine more =
      let content = is.0 in
      let h = is.1.0 in
      let split : drop p whole ≡ h ++ (content ++ left) = parts ∙ ap (λ (v : List ℕ). v ++ left) is.1.2 ∙ append_assoc h content left in
      let b = behind p whole h (content ++ left) le split in
      let some = head_some 5 (pairs_count ps) h is.1.1 in
      let found = pairs_again ps (fuel - 1) depth (inside + 1) (p + length h) whole content left b.1 b.0 is.2 (omega arith) (omega (arith, b.1)) in
      let end : p + length h + length content ≡ p + length front = omega (arith, length-append h content, ap (λ (v : List ℕ). length v) is.1.2) in
      item_pairs fuel (fuel - 1) depth inside p whole _ (omega arith) (omega arith)
      (head_again p 5 (pairs_count ps) whole h (content ++ left) (omega arith) le split is.1.1) (major_is 5 (pairs_count ps) h is.1.1)
      ∙ rw (found, end) refl
  item_again null fuel depth inside p whole front left le parts is fine more =
      byte_again null 0xf6 fuel depth inside p whole front left le parts is (omega arith) (omega arith) refl refl (omega arith) (omega arith)
      (λ head same. null_is head whole same)
  item_again (boolean false) fuel depth inside p whole front left le parts is fine more =
      byte_again (boolean false) 0xf4 fuel depth inside p whole front left le parts is (omega arith) (omega arith) refl refl (omega arith)
      (omega arith) (λ head same. false_is head whole same)
  item_again (boolean true) fuel depth inside p whole front left le parts is fine more =
      byte_again (boolean true) 0xf5 fuel depth inside p whole front left le parts is (omega arith) (omega arith) refl refl (omega arith)
      (omega arith) (λ head same. true_is head whole same)

  items_again : (items : Items) (fuel depth inside p : ℕ) (whole front left : List ℕ) → p ≤ length whole → drop p whole ≡ front ++ left
      → SpellsItems items front → items_nesting items + inside ≤ depth + 1 → 2 * (length whole - p) + 2 ≤ fuel
      → items_at fuel (items_count items) depth inside p whole ≡ Ok (items, p + length front)
  items_again no_items fuel depth inside p whole front left le parts is fine more =
      let end : p ≡ p + length front = rw is (omega arith) in
      items_none fuel 0 depth inside p whole refl ∙ rw (← end) refl
  items_again (item c rest) fuel depth inside p whole front left le parts is fine more =
      let first = is.0 in
      let others = is.1 in
      let split : drop p whole ≡ first ++ (others ++ left) = parts ∙ ap (λ (v : List ℕ). v ++ left) is.4 ∙ append_assoc first others left in
      let b = behind p whole first (others ++ left) le split in
      let some = some_bytes c first is.2 in
      let here = item_again c (fuel - 1) depth inside p whole first (others ++ left) le split is.2 (omega arith) (omega arith) in
      let there = items_again rest (fuel - 1) depth inside (p + length first) whole others left b.1 b.0 is.3 (omega arith) (omega (arith, b.1)) in
      let end : p + length first + length others ≡ p + length front = omega (arith, length-append first others, ap (λ (v : List ℕ). length v) is.4) in
      items_more fuel (fuel - 1) (items_count rest + 1) (items_count rest) depth inside p whole (omega arith) (omega arith) ∙ rw (here, there, end) refl

  pairs_again : (ps : Pairs) (fuel depth inside p : ℕ) (whole front left : List ℕ) → p ≤ length whole → drop p whole ≡ front ++ left
      → SpellsPairs ps front → pairs_nesting ps + inside ≤ depth + 1 → 2 * (length whole - p) + 2 ≤ fuel
      → pairs_at fuel (pairs_count ps) depth inside p whole ≡ Ok (ps, p + length front)
  pairs_again no_pairs fuel depth inside p whole front left le parts is fine more =
      let end : p ≡ p + length front = rw is (omega arith) in
      pairs_none fuel 0 depth inside p whole refl ∙ rw (← end) refl
  pairs_again (pair key value rest) fuel depth inside p whole front left le parts is fine more =
      let first = is.0 in
      let second = is.1 in
      let others = is.2 in
      let split : drop p whole ≡ first ++ (second ++ (others ++ left)) = parts ∙ ap (λ (v : List ℕ). v ++ left) is.6 ∙ simp append_assoc in
      let b = behind p whole first (second ++ (others ++ left)) le split in
      let d = behind (p + length first) whole second (others ++ left) b.1 b.0 in
      let some = some_bytes key first is.3 in
      let here = item_again key (fuel - 1) depth inside p whole first (second ++ (others ++ left)) le split is.3 (omega arith) (omega arith) in
      let middle = item_again value (fuel - 1) depth inside (p + length first) whole second (others ++ left) b.1 b.0 is.4 (omega arith) (omega (arith, b.1)) in
      let there = pairs_again rest (fuel - 1) depth inside (p + length first + length second) whole others left d.1 d.0 is.5 (omega arith)
      (omega (arith, b.1, d.1)) in
      let end : p + length first + length second + length others ≡ p + length front =
      omega (arith, length-append first (second ++ others), length-append second others, ap (λ (v : List ℕ). length v) is.6) in
      pairs_more fuel (fuel - 1) (pairs_count rest + 1) (pairs_count rest) depth inside p whole (omega arith) (omega arith) ∙ rw (here, middle, there, end) refl

pub reading_again : (depth : ℕ) (c : Cbor) (whole : List ℕ) → Spells c whole → nesting c ≤ depth → reading depth whole ≡ Ok c
unfolding reading
reading_again depth c whole is fine =
    let found = item_again c (2 * length whole + 2) depth 0 0 whole whole [] (omega arith) (sym (append-nil whole)) is (omega arith) (omega arith) in
    let t : nat_lt (0 + length whole) (length whole) ≡ false = le-ltb _ _ (omega arith) in
    rw (found, t) refl

-- bytes spell at most one item
pub one_item : (a b : Cbor) (whole : List ℕ) → Spells a whole → Spells b whole → a ≡ b
one_item a b whole is too =
    let depth = max (nesting a) (nesting b) in
    ok_is a b (sym (reading_again depth a whole is (omega arith)) ∙ reading_again depth b whole too (omega arith))
