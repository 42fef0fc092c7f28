-- A value that is replaced at each entry of a name, one entry after another.
use Rattle.std.proofs.Common.{◌≡◌, ℕ, ◌+◌, ◌<◌, Bool, true, false, cond, List, ◌++◌, length, get_or, set, take, drop, sym, ap, ◌∙◌}
use Rattle.std.specs.Str.{bytes_eq}
use Rattle.std.proofs.lemmas.List.Edits.{map_over_more}
use Rattle.saw_intkey.specs.States.{Names, replaced}

-- the names so far, of which those before a place have been gone through
abbrev pub replaced_up_to : List ℕ → ℕ → ℕ → Names → Names
replaced_up_to name value i names = replaced name value (take i names) ++ drop i names

-- an entry is gone through, whether it has the name or not
goes_through : (name : List ℕ) (value : ℕ) (names now new : Names) (i : ℕ) (entry put : List ℕ × ℕ) (b : Bool) → i < length names
    → now ≡ replaced_up_to name value i names → entry ≡ get_or now i entry
    → bytes_eq entry.0 name ≡ b → put ≡ cond b (entry.0, value) entry → new ≡ set now i put → new ≡ replaced_up_to name value (i + 1) names
goes_through name value names now new i entry put b lt so_far here test is written =
    written ∙ ap (set now i) (is ∙ ap (λ t. cond t (entry.0, value) entry) (sym test))
    ∙ map_over_more (λ e. cond (bytes_eq e.0 name) (e.0, value) e) names now i entry lt so_far here

pub replaces : (name : List ℕ) (value : ℕ) (names now new : Names) (i : ℕ) (entry : List ℕ × ℕ) (shown : List ℕ) → i < length names
    → now ≡ replaced_up_to name value i names → entry ≡ get_or now i entry
    → shown ≡ (get_or now i entry).0 → true ≡ bytes_eq shown name → new ≡ set now i ((get_or now i entry).0, value)
    → new ≡ replaced_up_to name value (i + 1) names
replaces name value names now new i entry shown lt so_far here shows same written =
    goes_through name value names now new i entry ((get_or now i entry).0, value) true lt so_far here
    (ap (λ (e : List ℕ × ℕ). bytes_eq e.0 name) here ∙ ap (λ s. bytes_eq s name) (sym shows) ∙ sym same)
    (ap (λ (e : List ℕ × ℕ). (e.0, value)) (sym here)) written

pub leaves : (name : List ℕ) (value : ℕ) (names now new : Names) (i : ℕ) (entry : List ℕ × ℕ) (shown : List ℕ) → i < length names
    → now ≡ replaced_up_to name value i names → entry ≡ get_or now i entry
    → shown ≡ (get_or now i entry).0 → false ≡ bytes_eq shown name → new ≡ set now i (get_or now i entry) → new ≡ replaced_up_to name value (i + 1) names
leaves name value names now new i entry shown lt so_far here shows other written =
    goes_through name value names now new i entry (get_or now i entry) false lt so_far here
    (ap (λ (e : List ℕ × ℕ). bytes_eq e.0 name) here ∙ ap (λ s. bytes_eq s name) (sym shows) ∙ sym other)
    (sym here) written
