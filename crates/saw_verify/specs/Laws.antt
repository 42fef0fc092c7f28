-- What is true of attestation lists.
use Rattle.std.specs.Prelude.{◌≡◌, ℕ, true, List, [], ◌∷◌, ◌++◌, None}
use Rattle.std.specs.List.{AllByRecursion, flat_map}
use Rattle.saw_address.specs.Texts.{is_hex_text}
use Rattle.saw_verify.specs.Held.{line_of}
use Rattle.saw_verify.specs.Lists.{Triple, first_bad_line, triples_of}

-- the hex digits of a key, a signature and a digest
pub record IsTriple (triple : Triple) : Type 0 where
  pub key : is_hex_text 66 triple.key ≡ true
  pub signature : is_hex_text 128 triple.signature ≡ true
  pub digest : is_hex_text 128 triple.digest ≡ true

-- a line for each triple
abbrev pub list_text : List Triple → List ℕ
list_text triples = flat_map (λ triple. line_of triple.key triple.signature triple.digest ++ 10 ∷ []) triples

-- a list that is written has no bad line, and lists what was written
abbrev pub ListIsRead : Type 0
ListIsRead = (triples : List Triple) → AllByRecursion IsTriple triples → (first_bad_line (list_text triples) ≡ None) × (triples_of (list_text triples) ≡ triples)
