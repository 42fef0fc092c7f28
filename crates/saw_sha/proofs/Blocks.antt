-- Which bytes the blocks of a padded message have.
use Rattle.std.proofs.Common.{◌≡◌, ◌≢◌, ℕ, suc, ◌+◌, ◌-◌, ◌*◌, ◌/◌, ◌%◌, ◌^◌, ◌<◌, ◌≤◌, List, [], ◌∷◌, ◌++◌, length, take, drop, replicate, refl, sym, ap, inl, inr, ◌∙◌, arith, length-append, length-drop, lit≤}
use Rattle.std.proofs.lemmas.List.{take-append-le, drop-append-le, take_all, drop_all, append_assoc, append-nil, take_at, length-take-le, take-replicate, drop-replicate, length-replicate}
use Rattle.std.proofs.lemmas.Slice.{take-put_mid}
use borrow.Rule.Slice.PartMut.{put_mid, post_of}
use Rattle.std.proofs.Math.Seq.{take-append-add, drop-append-add}
use Rattle.std.specs.Int.{w128, to_be_bytes}
use Rattle.sha2.specs.Sha512.{hash_after, compress, padded_message, padding, digest_bytes, initial_hash_512, sha512}
use Rattle.std.proofs.lemmas.Bool.{cases_lt}
use Rattle.sha2.proofs.Absorbing512.{hash_after_next}
use Rattle.saw_sha.specs.Block.{block_count, padded_block}

-- the length of a message in bits, as the padding's last 16 bytes
abbrev pub bit_length : List ℕ → List ℕ
bit_length m = to_be_bytes w128 (length m * 8 % 2 ^ 128)

-- zero bytes
abbrev pub zeros : ℕ → List ℕ
zeros n = replicate n 0

pub length-zeros : (n : ℕ) → length (zeros n) ≡ n
length-zeros n = length-replicate n 0

length-padded : (m : List ℕ) → length (padded_message m) ≡ length m + (1 + ((239 - length m % 128) % 128 + 16))
length-padded m =
    let z = (239 - length m % 128) % 128 in
    let tail = length-append (zeros z) (bit_length m) in
    let count = length-zeros z in
    let last : length (bit_length m) ≡ 16 = refl in
    omega (arith, length-append m (padding (length m)), tail, count, last)

pub block_count_short : (m : List ℕ) → length m % 128 < 112 → block_count m ≡ length m / 128 + 1
block_count_short m lt = omega (arith, length-padded m)

pub block_count_long : (m : List ℕ) → 112 ≤ length m % 128 → block_count m ≡ length m / 128 + 2
block_count_long m le = omega (arith, length-padded m)

-- a block that lies within the message
pub padded_block_whole : (m : List ℕ) (i : ℕ) → i < length m / 128 → padded_block m i ≡ take 128 (drop (i * 128) m)
padded_block_whole m i lt =
    let fits : 128 ≤ length (drop (i * 128) m) = omega (arith, length-drop (i * 128) m) in
    ap (take 128) (drop-append-le (i * 128) m (padding (length m)) (omega arith)) ∙ take-append-le 128 (drop (i * 128) m) (padding (length m)) fits

-- the bytes after the last whole block, and their padding
last_bytes : (m : List ℕ) → drop (length m / 128 * 128) (padded_message m) ≡ drop (length m / 128 * 128) m ++ padding (length m)
last_bytes m = drop-append-le (length m / 128 * 128) m (padding (length m)) (omega arith)

pub length-last : (m : List ℕ) → length (drop (length m / 128 * 128) m) ≡ length m % 128
length-last m = omega (arith, length-drop (length m / 128 * 128) m)

-- a last block that begins in the message
pub padded_block_short : (m : List ℕ) → length m % 128 < 112
    → padded_block m (length m / 128) ≡ (drop (length m / 128 * 128) m ++ 0x80 ∷ zeros (111 - length m % 128)) ++ bit_length m
padded_block_short m lt =
    let r = drop (length m / 128 * 128) m in
    let left : (239 - length m % 128) % 128 ≡ 111 - length m % 128 = omega arith in
    let len : length (r ++ padding (length m)) ≡ 128 = omega (arith, length-append r (padding (length m)), length-last m, length-append m (padding (length m)), length-padded m) in
    ap (take 128) (last_bytes m) ∙ take_all 128 (r ++ padding (length m)) (omega arith) ∙ rw left (sym (append_assoc r (0x80 ∷ zeros (111 - length m % 128)) (bit_length m)))

-- a block that begins in the message, with no room for the length
pub padded_block_long : (m : List ℕ) → 112 ≤ length m % 128
    → padded_block m (length m / 128) ≡ drop (length m / 128 * 128) m ++ 0x80 ∷ zeros (127 - length m % 128)
padded_block_long m le =
    let r = drop (length m / 128 * 128) m in
    let k = length m % 128 in
    let z = (239 - k) % 128 in
    let split : length r + suc (127 - k) ≡ 128 = omega (arith, length-last m) in
    let count = length-zeros z in
    let inside : take (127 - k) (zeros z ++ bit_length m) ≡ zeros (127 - k) =
    take-append-le (127 - k) (zeros z) (bit_length m) (omega (arith, count)) ∙ take-replicate (127 - k) z 0 (omega arith) in
    ap (take 128) (last_bytes m) ∙ rw split at (take-append-add r (padding (length m)) (suc (127 - k)))
    ∙ ap (λ (l : List ℕ). r ++ 0x80 ∷ l) inside

-- what is left of some zeros, and what follows them
drop_zeros : (j z : ℕ) (b : List ℕ) → j ≤ z → drop j (zeros z ++ b) ≡ zeros (z - j) ++ b
drop_zeros j z b le =
    let count = length-zeros z in
    drop-append-le j (zeros z) b (omega arith) ∙ ap (λ (l : List ℕ). l ++ b) (drop-replicate j z 0)

-- the block after that one
pub padded_block_last : (m : List ℕ) → 112 ≤ length m % 128 → padded_block m (length m / 128 + 1) ≡ zeros 112 ++ bit_length m
padded_block_last m le =
    let k = length m % 128 in
    let past : length m + suc (127 - k) ≡ (length m / 128 + 1) * 128 = omega arith in
    let left : (239 - k) % 128 - (127 - k) ≡ 112 = omega arith in
    let from : drop ((length m / 128 + 1) * 128) (padded_message m) ≡ zeros 112 ++ bit_length m =
    rw past at (drop-append-add m (padding (length m)) (suc (127 - k)))
    ∙ drop_zeros (127 - k) ((239 - k) % 128) (bit_length m) (omega arith) ∙ ap (λ (n : ℕ). zeros n ++ bit_length m) left in
    ap (take 128) from

-- a write up to the end
put_end : (a k : ℕ) (xs ys : List ℕ) → a ≤ length xs → length xs ≤ a + k → put_mid a k xs ys ≡ take a xs ++ ys
put_end a k xs ys le ge =
    let none : post_of a k xs ≡ [] = drop_all k (drop a xs) (omega (arith, length-drop a xs)) in
    ap (λ (l : List ℕ). take a xs ++ (ys ++ l)) none ∙ ap (λ (l : List ℕ). take a xs ++ l) (append-nil ys)

pub written_last : (l : List ℕ) → put_mid 112 16 (zeros 128) l ≡ zeros 112 ++ l
written_last l =
    let count = length-zeros 128 in
    let left : take 112 (zeros 128) ≡ zeros 112 = take-replicate 112 128 0 (lit≤ tt) in
    put_end 112 16 (zeros 128) l (omega arith) (omega arith) ∙ ap (λ (x : List ℕ). x ++ l) left

module _ (r y : List ℕ) (k : ℕ) (len : length r ≡ k) (le : k ≤ 128) where
  abbrev begun : List ℕ
  begun = r ++ drop k (zeros 128)

  length-begun : length begun ≡ 128
  length-begun =
      let count = length-zeros 128 in
      omega (arith, length-append r (drop k (zeros 128)), length-drop k (zeros 128))

  pub written_long : put_mid k (128 - k) begun y ≡ r ++ y
  written_long =
      put_end k (128 - k) begun y (omega (arith, length-begun)) (omega (arith, length-begun))
      ∙ ap (λ (x : List ℕ). x ++ y) (take_at r (drop k (zeros 128)) k len)

  pub written_short : (l : List ℕ) → k < 112 → length y ≡ 112 - k → put_mid 112 16 (put_mid k (112 - k) begun y) l ≡ (r ++ y) ++ l
  written_short l lt e =
      let next = put_mid k (112 - k) begun y in
      let head : length (take k begun) ≡ k = length-take-le k begun (omega (arith, length-begun)) in
      let rest : length (post_of k (112 - k) begun) ≡ 16 = omega (arith, length-drop (112 - k) (drop k begun), length-drop k begun, length-begun) in
      let whole : length next ≡ 128 = omega (arith, length-append (take k begun) (y ++ post_of k (112 - k) begun), length-append y (post_of k (112 - k) begun)) in
      put_end 112 16 next l (omega arith) (omega arith)
      ∙ ap (λ (x : List ℕ). x ++ l) (take-put_mid k (112 - k) begun y 112 (omega arith) (omega (arith, length-begun))
      ∙ ap (λ (x : List ℕ). x ++ y) (take_at r (drop k (zeros 128)) k len))

-- after i blocks, a lane that is not done holds the hash value so far, and one that is done has its digest kept
abbrev pub IsAfter : List ℕ → ℕ → List ℕ → List ℕ → Type 0
IsAfter m i h out = (i ≤ block_count m → h ≡ hash_after initial_hash_512 (padded_message m) i) × (block_count m ≤ i → out ≡ sha512 m)

pub IsAfter_none : (m h out : List ℕ) → h ≡ initial_hash_512 → IsAfter m 0 h out
unfolding hash_after
IsAfter_none m h out e = (λ le. e, λ le. absurd (omega (arith, length-padded m)))

pub IsAfter_next : (m : List ℕ) (i n : ℕ) (h out block h' out' : List ℕ) → IsAfter m i h out → n ≡ block_count m
    → (i < block_count m → block ≡ padded_block m i) → h' ≡ compress h block
    → (i + 1 ≡ n → out' ≡ digest_bytes h' 8) → (i + 1 ≢ n → out' ≡ out) → IsAfter m (i + 1) h' out'
unfolding sha512
IsAfter_next m i n h out block h' out' held count is next last other =
    let grown : i + 1 ≤ block_count m → h' ≡ hash_after initial_hash_512 (padded_message m) (i + 1) =
    λ le. rw (next, is (omega arith), held.0 (omega arith)) (sym (hash_after_next initial_hash_512 (padded_message m) i)) in (
      grown,
      λ ge. elim (cases_lt (block_count m) (i + 1)) [
        | inl lt ↦ other (omega arith) ∙ held.1 (omega arith)
        | inr le ↦
            let same : block_count m ≡ i + 1 = omega arith in
            last (omega arith) ∙ ap (λ (x : List ℕ). digest_bytes x 8) (grown (omega arith) ∙ ap (hash_after initial_hash_512 (padded_message m)) (sym same))
      ],
    )
