-- Kids that stand at the front of both are passed over: nothing differs below them.
use Rattle.std.proofs.Common.{ℕ, ◌+◌, ◌<◌, ◌≤◌, List, [], ◌∷◌, ◌++◌, length, refl, ap, ◌∙◌, subst, arith, Option, inl, inr}
use Rattle.std.proofs.lemmas.List.{length-append}
use Rattle.saw_messages.specs.declared.outcome.Change.{Change}
use Rattle.saw_runs.specs.Differing.{Begins, IsFirst, Lead, PassSame, Takes}
use Rattle.saw_runs.specs.Entries.{Entry}
use Rattle.saw_runs.proofs.SideBySide.{Walked, same_part, walk_on}

module _ (read : List ℕ → Option Entry) (levels : ℕ) (place : List ℕ) (from to : Option (List ℕ × List ℕ)) (old now : List Change) where
  along : (same rest others : List Lead) → Walked read levels place from to (same ++ rest) (same ++ others) old now
      → Walked read levels place from to rest others old now
  along [] rest others walked = walked
  along (kid ∷ same) rest others walked =
      along same rest others
      (walk_on read levels place from to old (kid ∷ (same ++ rest)) (kid ∷ (same ++ others)) (same ++ rest) (same ++ others) kid.0 kid.1 kid.1 now now walked
      (record { of_first = omega arith; of_second = omega arith; begins = inl refl }) (inr refl) (inr refl)
      (same_part read levels (place ++ kid.0 ∷ []) kid.1 kid.1 now refl))

  pub pass_on : (left_first left_second rest others : List Lead) → Walked read levels place from to left_first left_second old now
      → PassSame left_first left_second rest others → Walked read levels place from to rest others old now
  pass_on left_first left_second rest others walked pass =
      along pass.0 rest others (subst (λ kids. Walked read levels place from to kids (pass.0 ++ others) old now) pass.1
      (subst (λ kids. Walked read levels place from to left_first kids old now) pass.2 walked))

-- ---- how many kids are left

took : (b : ℕ) (kids rest : List Lead) (part : Option (List ℕ × List ℕ)) → Takes b kids part rest
    → (length rest ≤ length kids) × (Begins b kids → length rest < length kids)
took b kids rest part takes = elim takes [
  | inl none ↦ let same = ap length none.2 in (omega (arith, same), λ begins. absurd (none.0 begins))
  | inr one ↦ let more = ap length one in (omega (arith, more), λ begins. omega (arith, more))
]

-- where one is taken at the least byte, and others are passed over, fewer are left
pub fewer_left : (b : ℕ) (firsts seconds rest others rest_left others_left : List Lead) (one two : Option (List ℕ × List ℕ)) → IsFirst b firsts seconds
    → Takes b firsts one rest → Takes b seconds two others → PassSame rest others rest_left others_left
    → length rest_left + length others_left < length firsts + length seconds
fewer_left b firsts seconds rest others rest_left others_left one two first takes_first takes_second pass =
    let of_first = took b firsts rest one takes_first in
    let of_second = took b seconds others two takes_second in
    let low = of_first.0 in
    let low_second = of_second.0 in
    let passed = ap length pass.1 ∙ length-append pass.0 rest_left in
    let passed_second = ap length pass.2 ∙ length-append pass.0 others_left in
    elim first.begins [
      | inl begins ↦ let lt = of_first.1 begins in omega (arith, lt, low_second, passed, passed_second)
      | inr begins ↦ let lt = of_second.1 begins in omega (arith, low, lt, passed, passed_second)
    ]
