-- States that have entries at addresses alone.
use Rattle.std.proofs.Common.{◌≡◌, ℕ, Bool, true, false, cond, List, [], ◌∷◌, Option, Some, None, inl, inr, bytes_eq, refl, sym, ap, ◌∙◌}
use Rattle.std.specs.Ordering.{nat_cmp}
use Rattle.std.specs.Cmp.{eq_by_cmp_equiv}
use Rattle.std.specs.Cmp.Lexicographic.{slice_cmp, nat_list_cmp_total}
use Rattle.std.specs.FinMap as finite
use Rattle.std.specs.FinMap.Entries.{find}
use Rattle.std.specs.List.{AllByRecursion, list_all}
use Rattle.std.specs.Map.{keys_of}
use Rattle.std.proofs.lemmas.Bool.{and_from, and_parts, both_ways, cases_Bool, false_from_ne_true}
use Rattle.std.proofs.lemmas.Slice.Eq.{bytes_eq-Decides}
use Rattle.saw_address.specs.Maps.{Entries, StateMap, AreAddresses, is_address}
use Rattle.saw_messages.specs.declared.outcome.Change.{Change}
use Rattle.saw_context.specs.Outcome.{map_after}
use Rattle.saw_context.proofs.Each.{all_weaker}
use Rattle.saw_context.proofs.Keys.{same_key}
use Rattle.saw_context.proofs.OnTop.{value_at_apart}

-- an address and what is none differ
apart_from_address : (address at : List ℕ) → is_address address ≡ true → is_address at ≡ false → bytes_eq address at ≡ false
apart_from_address address at is isnt =
    false_from_ne_true (bytes_eq address at) (λ same. both_ways (is_address at) isnt (ap is_address (sym ((bytes_eq-Decides address at).0 same)) ∙ is))

-- nothing is found but at an address
found_none : (es : Entries) (at : List ℕ) → AreAddresses es → is_address at ≡ false → find (slice_cmp nat_cmp) at es ≡ None
found_none [] at all isnt = refl
found_none (e ∷ es) at all isnt =
    let parts = and_parts (is_address e.0) (list_all is_address (keys_of es)) all in
    ap (λ same. cond same (Some e.1) (find (slice_cmp nat_cmp) at es)) (sym (same_key e.0 at) ∙ apart_from_address e.0 at parts.0 isnt)
    ∙ found_none es at parts.1 isnt

-- a first entry that is not found, and what is behind it
first_none : (same : Bool) (v : List ℕ) (rest : Option (List ℕ)) → cond same (Some v) rest ≡ None → (same ≡ false) × (rest ≡ None)
first_none true v rest e = absurd cc
first_none false v rest e = (refl, e)

-- entries of which none is found but at an address
addresses_found : (es : Entries) → ((at : List ℕ) → is_address at ≡ false → find (slice_cmp nat_cmp) at es ≡ None) → AreAddresses es
addresses_found [] none = refl
addresses_found (e ∷ es) none =
    and_from (is_address e.0) (list_all is_address (keys_of es))
    (elim (cases_Bool (is_address e.0)) [
      | inl is ↦ is
      | inr isnt ↦ absurd (both_ways _ (first_none _ _ _ (none e.0 isnt)).0 ((eq_by_cmp_equiv nat_list_cmp_total).refl e.0))
    ])
    (addresses_found es (λ at isnt. (first_none _ _ _ (none at isnt)).1))

-- changes at addresses leave entries at addresses alone
pub addresses_after : (m : StateMap) (changes : List Change) → AllByRecursion (λ change. is_address change.address ≡ true) changes
    → AreAddresses (finite.entries m) → AreAddresses (finite.entries (map_after m changes))
addresses_after m changes all are =
    addresses_found (finite.entries (map_after m changes)) (λ at isnt.
    sym (finite.get-entries (map_after m changes) at)
    ∙ value_at_apart m changes at
    (all_weaker (λ change. is_address change.address ≡ true) (λ change. bytes_eq change.address at ≡ false)
    (λ change is. apart_from_address change.address at is isnt) changes all)
    ∙ finite.get-entries m at ∙ found_none (finite.entries m) at are isnt)
