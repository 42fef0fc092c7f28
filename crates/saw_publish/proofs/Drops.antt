-- Dropped batches, taken one after another.
use Rattle.std.proofs.Common.{◌≡◌, ◌<◌, ◌+◌, ℕ, true, false, List, [], ◌∷◌, ◌++◌, length, map, take, drop, get_or, Option, Some, None, refl, sym, ap, ◌∙◌, arith}
use Rattle.std.specs.Prelude.{option_map}
use Rattle.std.proofs.lemmas.Bool.{eq-eqb, true≢false}
use Rattle.std.proofs.lemmas.List.{drop_more, map_push, take_more}
use Rattle.saw_plan.specs.Sorting.{dropped_by}
use Rattle.saw_plan.specs.declared.sorted.DropCause.{DropCause}
use Rattle.saw_plan.specs.declared.sorted.Dropped.{Dropped}
use Rattle.saw_receipts.specs.declared.loss.LossCause.{LossCause}
use Rattle.saw_receipts.specs.declared.loss.LossCause.TheVariants.{Static}
use Rattle.saw_publish.specs.Dropping.{begins_at}

-- none of those that are dropped behind a place has it
not_before : (place at : ℕ) (causes : List (Option DropCause)) → place < at → begins_at place (dropped_by at causes) ≡ false
not_before place at [] h = refl
not_before place at (None ∷ causes) h = not_before place (at + 1) causes (omega arith)
not_before place at (Some cause ∷ causes) h = grind arith

-- a batch that is not the next one stays in
pub stays_in : (waiting : List Dropped) (place : ℕ) (cause : Option DropCause) (others : List (Option DropCause)) → begins_at place waiting ≡ false
    → waiting ≡ dropped_by place (cause ∷ others) → (None ≡ option_map Static cause) × (waiting ≡ dropped_by (place + 1) others)
stays_in waiting place None others ends is = (refl, is)
stays_in waiting place (Some cause) others ends is =
    absurd (true≢false (sym (eq-eqb place place refl) ∙ sym (ap (begins_at place) is) ∙ ends))

-- the next one is dropped
pub drops_next : (waiting rest : List Dropped) (next : Dropped) (place : ℕ) (cause : Option DropCause) (others : List (Option DropCause))
    → begins_at place waiting ≡ true → waiting ≡ next ∷ rest → waiting ≡ dropped_by place (cause ∷ others)
    → (Some (Static next.cause) ≡ option_map Static cause) × (rest ≡ dropped_by (place + 1) others)
drops_next waiting rest next place None others begins first is =
    absurd (true≢false (sym begins ∙ ap (begins_at place) is ∙ not_before place (place + 1) others (omega arith)))
drops_next waiting rest next place (Some cause) others begins first is = (cc, cc)

-- what is not waiting is not the next
pub none_waits : (waiting : List Dropped) (place : ℕ) → waiting ≡ [] → begins_at place waiting ≡ true → ⊥
none_waits waiting place e begins = true≢false (sym begins ∙ ap (begins_at place) e)

-- the fates so far, and one more
pub fates_more : (causes : List (Option DropCause)) (place : ℕ) (fates : List (Option LossCause)) (fate : Option LossCause) (waiting rest : List Dropped)
    → place < length causes → fates ≡ map (option_map Static) (take place causes) → waiting ≡ dropped_by place (drop place causes)
    → ((cause : Option DropCause) (others : List (Option DropCause)) → waiting ≡ dropped_by place (cause ∷ others)
    → (fate ≡ option_map Static cause) × (rest ≡ dropped_by (place + 1) others))
    → (fates ++ fate ∷ [] ≡ map (option_map Static) (take (place + 1) causes)) × (rest ≡ dropped_by (place + 1) (drop (place + 1) causes))
fates_more causes place fates fate waiting rest here so_far is step =
    let cause = get_or causes place None in
    let next = step cause (drop (place + 1) causes) (is ∙ ap (dropped_by place) (drop_more causes place None here)) in (
      ap (λ fates. fates ++ fate ∷ []) so_far ∙ ap (λ fate. map (option_map Static) (take place causes) ++ fate ∷ []) next.0
          ∙ sym (map_push (option_map Static) (take place causes) cause) ∙ ap (map (option_map Static)) (sym (take_more causes place None here)),
      next.1,
    )
