-- Maps by their values, and states, after the same changes.
use Rattle.std.proofs.Common.{◌≡◌, ℕ, Bool, true, false, cond, if◌then◌else◌, List, [], ◌∷◌, Option, Some, None, refl, sym, ap, ◌∙◌, bytes_eq}
use Rattle.std.specs.Option.{option_or}
use Rattle.saw_address.specs.Maps.{StateMap, value_at}
use Rattle.saw_messages.specs.declared.outcome.Change.{Change}
use Rattle.saw_messages.specs.declared.outcome.Outcome.{Outcome}
use Rattle.saw_messages.specs.declared.outcome.Outcome.TheVariants.{Ok, Invalid}
use Rattle.saw_context.proofs.OnTop.{value_after, value_at-map_after}
use Rattle.saw_context.specs.Outcome.{map_after}
use Rattle.saw_context.specs.Serial.{left_after, left_by, map_after_all}
use Rattle.saw_context.specs.declared.batch_result.BatchResult.{BatchResult}
use Rattle.saw_context.specs.declared.batch_result.BatchResult.TheVariants.{Applied, Failed}
use Rattle.saw_machine.specs.Orders.{Map, after, change_at, changed}
use Rattle.saw_machine.specs.Serial.{after_all, end_map}
use Rattle.saw_machine.specs.Serial as machine

-- the state has what the map gives
abbrev pub Has : Map → StateMap → Type 0
Has m n = (at : List ℕ) → m at ≡ value_at n at

-- an earlier change shows where no later one does
changed-later : (later : Option (Option (List ℕ))) (same : Bool) (value below : Option (List ℕ))
    → changed (option_or later (if same then Some value else None)) below ≡ changed later (cond same value below)
changed-later None true value below = refl
changed-later None false value below = refl
changed-later (Some found) same value below = refl

-- the last change is what is left of changes one after another
changed-after : (changes : List Change) (at : List ℕ) (below : Option (List ℕ)) → changed (change_at changes at) below ≡ value_after changes at below
changed-after [] at below = refl
changed-after (change ∷ changes) at below =
    changed-later (change_at changes at) (bytes_eq change.address at) change.value below
    ∙ changed-after changes at (cond (bytes_eq change.address at) change.value below)

-- after changes the state has what the map gives
pub has-after : (m : Map) (n : StateMap) (changes : List Change) → Has m n → Has (after m changes) (map_after n changes)
has-after m n changes has at =
    ap (changed (change_at changes at)) (has at) ∙ changed-after changes at (value_at n at) ∙ sym (value_at-map_after n changes at)

-- after outcomes too
has-after_all : (m : Map) (n : StateMap) (outcomes : List Outcome) → Has m n → Has (after_all m outcomes) (map_after_all n outcomes)
has-after_all m n [] has = has
has-after_all m n (Ok changes events ∷ outcomes) has = has-after_all (after m changes) (map_after n changes) outcomes (has-after m n changes has)
has-after_all m n (Invalid reason ∷ outcomes) has = has-after_all m n outcomes has

-- and after a batch
pub has-left_by : (m : Map) (n : StateMap) (result : BatchResult) → Has m n → Has (machine.map_after m result) (left_by n result)
has-left_by m n (Applied outcomes) has = has-after_all m n outcomes has
has-left_by m n (Failed t reason) has = has

-- so it does after batches
pub has-left_after : (m : Map) (n : StateMap) (results : List BatchResult) → Has m n → Has (end_map m results) (left_after n results)
has-left_after m n [] has = has
has-left_after m n (result ∷ results) has = has-left_after (machine.map_after m result) (left_by n result) results (has-left_by m n result has)
