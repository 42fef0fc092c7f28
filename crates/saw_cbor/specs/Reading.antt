-- Reading an item from left to right, with the first fault that is met.
use Rattle.std.specs.Prelude.{◌≡◌, ◌⊎◌, ◌+◌, ◌-◌, ◌*◌, ◌/◌, ◌%◌, ℕ, zero, suc, Bool, true, false, ◌||◌, ◌&&◌, not, List, [], ◌∷◌, length, take, drop, Option, Some, None, Result, Ok, Err, nat_lt, nat_le, ◌==◌, if◌then◌else◌}
use Rattle.std.specs.Str.{is_utf8}
use Rattle.saw_cbor.specs.declared.fault.CborFault.{CborFault}
use Rattle.saw_cbor.specs.declared.fault.CborFault.TheVariants.{Cut, Unsupported, Deep, Rest, NotUtf8, OutOfMemory}
use Rattle.saw_cbor.specs.Data.{Cbor, unsigned, negative, bytes, text, list, pairs, null, boolean, Items, no_items, item, Pairs, no_pairs, pair}
use Rattle.saw_cbor.specs.Spelling.{number_of}

infixl 10 ◌>>=◌
abbrev pub ◌>>=◌ : {A B : Type 0} → Result A CborFault → (A → Result B CborFault) → Result B CborFault
(Ok x) >>= f = f x
(Err e) >>= f = Err e

-- additional information that the profile has no meaning for, a tag, or a simple value that is not false, true or null
abbrev pub is_unsupported : ℕ → Bool
is_unsupported byte = nat_le 28 (byte % 32) || byte / 32 == 6 || (byte / 32 == 7 && not (byte == 0xf4 || byte == 0xf5 || byte == 0xf6))

-- how many bytes of argument stand behind the first byte of a head
abbrev pub argument_size : ℕ → ℕ
argument_size info = if nat_lt info 24 then 0 else if info == 24 then 1 else if info == 25 then 2 else if info == 26 then 4 else 8

-- what a head says: the major type with the low five bits, the argument, and the offset behind it
pub record Head : Type 0 where
  pub first : ℕ
  pub argument : ℕ
  pub behind : ℕ

-- the head of the item at p, whose first byte is given
unfoldable pub head_from : ℕ → ℕ → List ℕ → Result Head CborFault
head_from p first whole =
    if is_unsupported first then Err (Unsupported p)
    else if nat_lt (length whole) (p + 1 + argument_size (first % 32)) then Err Cut
    else Ok (record {
      first = first;
      argument = if nat_lt (first % 32) 24 then first % 32 else number_of (take (argument_size (first % 32)) (drop (p + 1) whole));
      behind = p + 1 + argument_size (first % 32);
    })

abbrev pub first_of : List ℕ → Option ℕ
first_of [] = None
first_of (byte ∷ rest) = Some byte

abbrev pub head_by : ℕ → List ℕ → Option ℕ → Result Head CborFault
head_by p whole None = Err Cut
head_by p whole (Some first) = head_from p first whole

-- the head of the item at p
unfoldable pub head_at : ℕ → List ℕ → Result Head CborFault
head_at p whole = head_by p whole (first_of (drop p whole))

-- so many bytes at q
unfoldable pub content_at : ℕ → ℕ → List ℕ → Result (List ℕ × ℕ) CborFault
content_at n q whole = if nat_lt (length whole) (q + n) then Err Cut else Ok (take n (drop q whole), q + n)

abbrev pub text_or : List ℕ × ℕ → Bool → Result (Cbor × ℕ) CborFault
text_or found true = Ok (text found.0, found.1)
text_or found false = Err NotUtf8

-- an item of a head that is no container
unfoldable pub leaf_at : Head → List ℕ → Result (Cbor × ℕ) CborFault
leaf_at head whole =
    if head.first / 32 == 0 then Ok (unsigned head.argument, head.behind)
    else if head.first / 32 == 1 then Ok (negative head.argument, head.behind)
    else if head.first / 32 == 2 then (do
      found ← content_at head.argument head.behind whole
      Ok (bytes found.0, found.1))
    else if head.first / 32 == 3 then (do
      found ← content_at head.argument head.behind whole
      text_or found (is_utf8 found.0))
    else if head.first == 0xf6 then Ok (null, head.behind)
    else Ok (boolean (head.first == 0xf5), head.behind)

-- The item at p, `inside` containers deep where `depth` are allowed, of at most `fuel` levels of reading.
-- Each item and each step from one item to the next take one level, and each item takes at least a byte,
-- so twice the number of bytes and one is fuel enough.
unfoldable mutual
  pub item_at : ℕ → ℕ → ℕ → ℕ → List ℕ → Result (Cbor × ℕ) CborFault
  item_at zero depth inside p whole = Err Cut
  item_at (suc fuel) depth inside p whole =
      if nat_lt depth inside then Err Deep
      else head_at p whole >>= λ head.
      if head.first / 32 == 4 then (do
        found ← items_at fuel head.argument depth (inside + 1) head.behind whole
        Ok (list found.0, found.1))
      else if head.first / 32 == 5 then (do
        found ← pairs_at fuel head.argument depth (inside + 1) head.behind whole
        Ok (pairs found.0, found.1))
      else leaf_at head whole

  -- so many items from p on
  pub items_at : ℕ → ℕ → ℕ → ℕ → ℕ → List ℕ → Result (Items × ℕ) CborFault
  items_at zero n depth inside p whole = if n == 0 then Ok (no_items, p) else Err Cut
  items_at (suc fuel) n depth inside p whole =
      if n == 0 then Ok (no_items, p)
      else (do
        first ← item_at fuel depth inside p whole
        others ← items_at fuel (n - 1) depth inside first.1 whole
        Ok (item first.0 others.0, others.1))

  pub pairs_at : ℕ → ℕ → ℕ → ℕ → ℕ → List ℕ → Result (Pairs × ℕ) CborFault
  pairs_at zero n depth inside p whole = if n == 0 then Ok (no_pairs, p) else Err Cut
  pairs_at (suc fuel) n depth inside p whole =
      if n == 0 then Ok (no_pairs, p)
      else (do
        key ← item_at fuel depth inside p whole
        value ← item_at fuel depth inside key.1 whole
        others ← pairs_at fuel (n - 1) depth inside value.1 whole
        Ok (pair key.0 value.0 others.0, others.1))

-- what the whole input gives: one item and nothing behind it, or the first fault
unfoldable pub reading : ℕ → List ℕ → Result Cbor CborFault
reading depth whole = do
  found ← item_at (2 * length whole + 2) depth 0 0 whole
  if nat_lt found.1 (length whole) then Err (Rest found.1) else Ok found.0

-- what was returned, seen by view, is what reading gives, unless memory ran out
abbrev pub IsReading : {X Y : Type 0} → (X → Y) → Result X CborFault → Result Y CborFault → Type 0
IsReading view (Ok x) read = read ≡ Ok (view x)
IsReading view (Err e) read = (e ≡ OutOfMemory) ⊎ (read ≡ Err e)

-- the same, for what takes no memory
abbrev pub Is : {X Y : Type 0} → (X → Y) → Result X CborFault → Result Y CborFault → Type 0
Is view (Ok x) read = read ≡ Ok (view x)
Is view (Err e) read = read ≡ Err e
