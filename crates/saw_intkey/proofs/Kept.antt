-- Names as the pairs that are kept for them.
use Rattle.std.proofs.Common.{◌≡◌, ℕ, List, [], ◌∷◌, map, refl, ap}
use Rattle.saw_cbor.specs.Data.{Cbor, text, unsigned, pair}
use Rattle.saw_cbor.specs.View.{pairs_of}
use Rattle.saw_intkey.specs.States.{Names, pairs_of_names}

-- the pair that is kept for a name with its value
abbrev pub entry_pair : List ℕ × ℕ → Cbor × Cbor
entry_pair entry = (text entry.0, unsigned entry.1)

pub pairs_of-entries : (names : Names) → pairs_of (map entry_pair names) ≡ pairs_of_names names
pairs_of-entries [] = refl
pairs_of-entries (entry ∷ names) = ap (pair (text entry.0) (unsigned entry.1)) (pairs_of-entries names)
