-- Which bytes spell which item: RFC 8949, section 3, in the profile of definite lengths without tags and floats.
use Rattle.std.specs.Prelude.{◌≡◌, ◌⊎◌, ◌<◌, ◌+◌, ◌*◌, ℕ, true, false, List, [], ◌∷◌, ◌++◌, length}
use Rattle.std.specs.Str.{is_utf8}
use Rattle.saw_cbor.specs.Data.{Cbor, unsigned, negative, bytes, text, list, pairs, null, boolean, Items, no_items, item, Pairs, no_pairs, pair, items_count, pairs_count}

-- the number of bytes, the highest first
abbrev pub number_from : ℕ → List ℕ → ℕ
number_from high [] = high
number_from high (byte ∷ rest) = number_from (high * 256 + byte) rest

abbrev pub number_of : List ℕ → ℕ
number_of rest = number_from 0 rest

-- how many bytes an argument takes behind the first byte of a head, by the low five bits of that byte
abbrev pub IsWide : ℕ → ℕ → Type 0
IsWide info size = ((info ≡ 24) × (size ≡ 1)) ⊎ ((info ≡ 25) × (size ≡ 2)) ⊎ ((info ≡ 26) × (size ≡ 4)) ⊎ ((info ≡ 27) × (size ≡ 8))

-- an argument, in the low five bits or in the bytes behind; it may be longer than needed
abbrev pub IsArgument : ℕ → ℕ → List ℕ → Type 0
IsArgument info n rest = ((info < 24) × (n ≡ info) × (rest ≡ [])) ⊎ (IsWide info (length rest) × (n ≡ number_of rest))

-- the head of an item of a major type, with its argument
pub record IsHead (major n : ℕ) (head : List ℕ) : Type 0 where
  pub info : ℕ
  pub rest : List ℕ
  pub parts : head ≡ (major * 32 + info) ∷ rest
  pub argument : IsArgument info n rest

-- a head with what follows it
abbrev pub IsHeaded : ℕ → ℕ → List ℕ → List ℕ → Type 0
IsHeaded major n content whole = (head : List ℕ) × IsHead major n head × (whole ≡ head ++ content)

abbrev mutual
  pub Spells : Cbor → List ℕ → Type 0
  Spells (unsigned n) whole = IsHead 0 n whole
  Spells (negative n) whole = IsHead 1 n whole
  Spells (bytes content) whole = IsHeaded 2 (length content) content whole
  Spells (text content) whole = IsHeaded 3 (length content) content whole × (is_utf8 content ≡ true)
  Spells (list items) whole = (content : List ℕ) × IsHeaded 4 (items_count items) content whole × SpellsItems items content
  Spells (pairs ps) whole = (content : List ℕ) × IsHeaded 5 (pairs_count ps) content whole × SpellsPairs ps content
  Spells null whole = whole ≡ 0xf6 ∷ []
  Spells (boolean false) whole = whole ≡ 0xf4 ∷ []
  Spells (boolean true) whole = whole ≡ 0xf5 ∷ []

  -- items one behind the other
  pub SpellsItems : Items → List ℕ → Type 0
  SpellsItems no_items whole = whole ≡ []
  SpellsItems (item c rest) whole = (first : List ℕ) × (others : List ℕ) × Spells c first × SpellsItems rest others × (whole ≡ first ++ others)

  -- a key, its value, and the other pairs
  pub SpellsPairs : Pairs → List ℕ → Type 0
  SpellsPairs no_pairs whole = whole ≡ []
  SpellsPairs (pair key value rest) whole =
      (first : List ℕ) × (second : List ℕ) × (others : List ℕ) × Spells key first × Spells value second × SpellsPairs rest others × (whole ≡ first ++ (second ++ others))
