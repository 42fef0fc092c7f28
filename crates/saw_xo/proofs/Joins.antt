-- Entries that are written one after another.
use Rattle.std.proofs.Common.{◌≡◌, ℕ, ◌<◌, List, [], ◌∷◌, ◌++◌, map, length, refl, ap, ◌∙◌, arith}
use Rattle.std.specs.List.{join_with_byte}
use Rattle.std.proofs.lemmas.List.{append_assoc, length-append}
use Rattle.saw_xo.specs.Games.{entry_text}
use Rattle.saw_xo.specs.Texts.{joined}
use Rattle.saw_xo.specs.declared.game.Game.{Game}

-- texts written after a front
abbrev pub all_joined : List ℕ → List (List ℕ) → List ℕ
all_joined front [] = front
all_joined front (text ∷ texts) = all_joined (joined front text) texts

joined_more : (front text : List ℕ) → 0 < length front → joined front text ≡ front ++ 124 ∷ text
joined_more [] text h = absurd (omega arith)
joined_more (b ∷ front) text h = refl

join_first : (front text : List ℕ) (texts : List (List ℕ)) → join_with_byte 124 ((front ++ 124 ∷ text) ∷ texts) ≡ join_with_byte 124 (front ∷ text ∷ texts)
join_first front text [] = refl
join_first front text (next ∷ texts) = append_assoc front (124 ∷ text) (124 ∷ join_with_byte 124 (next ∷ texts))

all_joined-join : (front : List ℕ) (texts : List (List ℕ)) → 0 < length front → all_joined front texts ≡ join_with_byte 124 (front ∷ texts)
all_joined-join front [] h = refl
all_joined-join front (text ∷ texts) h =
    ap (λ first. all_joined first texts) (joined_more front text h)
    ∙ all_joined-join (front ++ 124 ∷ text) texts (omega (arith, length-append front (124 ∷ text)))
    ∙ join_first front text texts

-- an entry is not empty, since it has commas
some_text : (front last : List ℕ) → 0 < length ((front ++ 44 ∷ []) ++ last)
some_text front last = omega (arith, length-append (front ++ 44 ∷ []) last, length-append front (44 ∷ []))

pub some_entry : (entry : List ℕ × Game) → 0 < length (entry_text entry)
some_entry entry = some_text _ entry.1.second_key

pub all_entries_joined : (entries : List (List ℕ × Game)) → all_joined [] (map entry_text entries) ≡ join_with_byte 124 (map entry_text entries)
all_entries_joined [] = refl
all_entries_joined (entry ∷ entries) = all_joined-join (entry_text entry) (map entry_text entries) (some_entry entry)
