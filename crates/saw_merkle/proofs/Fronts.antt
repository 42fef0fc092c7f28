-- Changes made one after another.
use Rattle.std.proofs.Common.{◌≡◌, ℕ, ◌+◌, ◌<◌, List, [], ◌∷◌, ◌++◌, length, take, get_or, refl, sym, ap, ◌∙◌}
use Rattle.std.proofs.lemmas.List.{take_more}
use Rattle.saw_address.specs.Maps.{StateMap, changed_at}
use Rattle.saw_context.specs.Outcome.{map_after}
use Rattle.saw_messages.specs.declared.outcome.Change.{Change}

map_after-push : (m : StateMap) (changes : List Change) (change : Change)
    → map_after m (changes ++ change ∷ []) ≡ changed_at (map_after m changes) change.address change.value
map_after-push m [] change = refl
map_after-push m (first ∷ changes) change = map_after-push (changed_at m first.address first.value) changes change

-- one change more of a list
pub front_more : (m now new : StateMap) (changes : List Change) (i : ℕ) (change : Change) → i < length changes → change ≡ get_or changes i change
    → now ≡ map_after m (take i changes) → new ≡ changed_at now change.address change.value → new ≡ map_after m (take (i + 1) changes)
front_more m now new changes i change below here is made =
    made
    ∙ ap (λ (n : StateMap). changed_at n change.address change.value) is
    ∙ sym (ap (map_after m) (take_more changes i change below ∙ ap (λ (c : Change). take i changes ++ c ∷ []) (sym here))
    ∙ map_after-push m (take i changes) change)
