-- Results one after another.
use Rattle.std.proofs.Common.{◌≡◌, ℕ, ◌+◌, ◌<◌, List, [], ◌∷◌, length, drop, get_or, refl, sym, ap, ◌∙◌}
use Rattle.std.proofs.lemmas.List.{drop_more}
use Rattle.saw_address.specs.Maps.{StateMap}
use Rattle.saw_context.specs.Serial.{left_after, left_by, map_after_all}
use Rattle.saw_context.specs.declared.batch_result.BatchResult.{BatchResult}
use Rattle.saw_messages.specs.declared.outcome.Outcome.{Outcome}
use Rattle.saw_messages.specs.declared.outcome.Outcome.TheVariants as outcomes

one_more : (m : StateMap) (outcome : Outcome) (others : List Outcome)
    → map_after_all m (outcome ∷ others) ≡ map_after_all (map_after_all m (outcome ∷ [])) others
one_more m (outcomes.Ok changes events) others = refl
one_more m (outcomes.Invalid reason) others = refl

-- one more outcome is gathered, and fewer are left
pub outcome_more : (all : List Outcome) (i : ℕ) (outcome : Outcome) → i < length all → outcome ≡ get_or all i outcome → (m n : StateMap)
    → n ≡ map_after_all m (outcome ∷ [])
    → map_after_all n (drop (i + 1) all) ≡ map_after_all m (drop i all)
outcome_more all i outcome more here m n is =
    ap (λ n. map_after_all n (drop (i + 1) all)) is ∙ sym (one_more m outcome (drop (i + 1) all))
    ∙ sym (ap (map_after_all m) (drop_more all i outcome more ∙ ap (λ one. one ∷ drop (i + 1) all) (sym here)))

-- one more batch is gathered, and fewer are left
pub batch_more : (all : List BatchResult) (i : ℕ) (batch : BatchResult) → i < length all → batch ≡ get_or all i batch → (m n : StateMap)
    → n ≡ left_by m batch → left_after n (drop (i + 1) all) ≡ left_after m (drop i all)
batch_more all i batch more here m n is =
    ap (λ n. left_after n (drop (i + 1) all)) is
    ∙ sym (ap (left_after m) (drop_more all i batch more ∙ ap (λ one. one ∷ drop (i + 1) all) (sym here)))
