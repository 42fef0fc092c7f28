-- What is held of an attestation list, and how it is asked.
use Rattle.std.specs.Prelude.{◌≡◌, ℕ, Bool, ◌&&◌, List, [], ◌∷◌, ◌++◌, length, ◌==◌, Vec}
use Rattle.std.specs.List.{list_any}
use Rattle.std.specs.Str.{bytes_eq}
use Rattle.std.specs.BTreeSet.{BTreeSet}
use Rattle.hex.specs.Hex.{encode_lower}
use Rattle.sha2.specs.Sha512.{sha512}

-- the line of a key, a signature and a digest
abbrev pub line_of : List ℕ → List ℕ → List ℕ → List ℕ
line_of key signature digest = key ++ 32 ∷ [] ++ signature ++ 32 ∷ [] ++ digest

module _ {A : Type 0} where
  -- whether the set has a line
  abbrev pub has_line : BTreeSet (Vec ℕ A) → List ℕ → Bool
  has_line held line = list_any (λ one. bytes_eq line one.items) held.keys

  -- whether the set has the line of a key, a message and a signature
  abbrev pub is_held : BTreeSet (Vec ℕ A) → List ℕ → List ℕ → List ℕ → Bool
  is_held held key message signature =
      length key == 66
      && length signature == 128
      && has_line held (line_of key signature (encode_lower (sha512 message)))

  -- the set has exactly these lines
  abbrev pub HoldsLines : BTreeSet (Vec ℕ A) → List (List ℕ) → Type 0
  HoldsLines held lines = (line : List ℕ) → has_line held line ≡ list_any (bytes_eq line) lines
