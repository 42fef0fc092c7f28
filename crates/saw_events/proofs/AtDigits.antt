-- Entries of changes that are told, each under the digits of its address.
use Rattle.std.proofs.Common.{◌≡◌, ℕ, Bool, true, false, cond, T, List, [], ◌∷◌, map, Option, Some, None, Ordering, Less, Equal, Greater, is_lt}
use Rattle.std.proofs.Common.{bytes_eq, refl, sym, ap, subst, ◌∙◌}
use Rattle.std.specs.Ordering.{nat_cmp}
use Rattle.std.specs.Cmp.Lexicographic.{slice_cmp, nat_list_cmp_total}
use Rattle.std.specs.FinMap.Entries.{put, by_order, below_all, is_sorted, is_sorted-put}
use Rattle.std.specs.List.{AllByRecursion}
use Rattle.std.proofs.lemmas.Bool.{false_from_ne_true}
use Rattle.std.proofs.lemmas.Cmp.{tied_itself}
use Rattle.std.proofs.lemmas.Map.Lookups.{exact_bytes}
use Rattle.std.proofs.lemmas.Slice.Eq.{bytes_eq-Decides}
use Rattle.hex.specs.Hex.{encode_lower}
use Rattle.hex.proofs.HexLemmas.{decode_of-encode_lower}
use Rattle.saw_address.specs.Maps.{is_address}
use Rattle.saw_address.proofs.Digits.{IsBytes-is_address, encode_lower_once}
use Rattle.saw_context.proofs.Keys.{both_of}
use Rattle.saw_context.proofs.OnTop.{value_after, value_after_apart}
use Rattle.saw_messages.specs.declared.outcome.Change.{Change}
use Rattle.saw_messages.specs.declared.receipt.StateChange.{StateChange}
use Rattle.saw_receipts.specs.Receipts.{set_or_deleted, told}
use Rattle.saw_events.specs.Following.{change_of}

-- ---- changes that are told

address-set_or_deleted : (digits : List ℕ) (value : Option (List ℕ)) → (set_or_deleted digits value).address ≡ digits
address-set_or_deleted digits (Some value) = refl
address-set_or_deleted digits None = refl

change_of-set_or_deleted : (address : List ℕ) (value : Option (List ℕ)) → is_address address ≡ true
    → change_of (set_or_deleted (encode_lower address) value) ≡ record { address = address; value = value }
change_of-set_or_deleted address (Some value) is = rw (decode_of-encode_lower address (IsBytes-is_address address is)) refl
change_of-set_or_deleted address None is = rw (decode_of-encode_lower address (IsBytes-is_address address is)) refl

-- what is told of a change is that change
pub change_of-told : (change : Change) → is_address change.address ≡ true → change_of (told change) ≡ change
change_of-told change is = change_of-set_or_deleted change.address change.value is

-- a change under the digits of its address
abbrev pub IsAtDigits : List ℕ × StateChange → Type 0
IsAtDigits entry = (entry.0 ≡ encode_lower (change_of entry.1).address) × (is_address (change_of entry.1).address ≡ true)

pub told_at_digits : (change : Change) → is_address change.address ≡ true → IsAtDigits ((told change).address, told change)
told_at_digits change is =
    let back = change_of-told change is in (
      address-set_or_deleted (encode_lower change.address) change.value ∙ ap (λ c. encode_lower c.address) (sym back),
      ap (λ c. is_address c.address) back ∙ is,
    )

-- ---- entries in the order of their keys

-- the changes of entries, as they are applied
abbrev pub applied : List (List ℕ × StateChange) → List Change
applied es = map change_of (map (λ e. e.1) es)

first_or_last : (same : Bool) (changes : List Change) (at : List ℕ) (value below : Option (List ℕ))
    → (same ≡ true → AllByRecursion (λ change. bytes_eq change.address at ≡ false) changes)
    → value_after changes at (cond same value below) ≡ cond same value (value_after changes at below)
first_or_last true changes at value below others = value_after_apart changes at value (others refl)
first_or_last false changes at value below others = refl

module _ (k : List ℕ) (v : StateChange) (is : IsAtDigits (k, v)) (at : List ℕ) where
  -- an entry with a higher key changes another address
  apart : (e : List ℕ × StateChange) → IsAtDigits e → T (is_lt (slice_cmp nat_cmp k e.0)) → bytes_eq (change_of v).address at ≡ true
      → bytes_eq (change_of e.1).address at ≡ false
  apart e other above same = false_from_ne_true _ (λ here.
      let address = (bytes_eq-Decides (change_of e.1).address at).0 here ∙ sym ((bytes_eq-Decides (change_of v).address at).0 same) in
      let key = other.0 ∙ ap encode_lower address ∙ sym is.0 in
      subst (λ r. T (is_lt r)) (ap (slice_cmp nat_cmp k) key ∙ tied_itself nat_list_cmp_total k) above)

  all_apart : (es : List (List ℕ × StateChange)) → AllByRecursion IsAtDigits es → T (below_all (slice_cmp nat_cmp) k es)
      → bytes_eq (change_of v).address at ≡ true → AllByRecursion (λ change. bytes_eq change.address at ≡ false) (applied es)
  all_apart [] all above same = tt
  all_apart (e ∷ es) all above same = let b = both_of _ _ above in (apart e all.0 b.0 same, all_apart es all.1 b.1 same)

  -- what the entry with the lowest key sets stays
  value_after-first : (es : List (List ℕ × StateChange)) (below : Option (List ℕ)) → AllByRecursion IsAtDigits es
      → T (below_all (slice_cmp nat_cmp) k es) → value_after (applied ((k, v) ∷ es)) at below
      ≡ cond (bytes_eq (change_of v).address at) (change_of v).value (value_after (applied es) at below)
  value_after-first es below all above =
      first_or_last (bytes_eq (change_of v).address at) (applied es) at (change_of v).value below (all_apart es all above)

-- ---- one entry more

pub all_put : (k : List ℕ) (v : StateChange) (es : List (List ℕ × StateChange)) → IsAtDigits (k, v) → AllByRecursion IsAtDigits es
    → AllByRecursion IsAtDigits (put (slice_cmp nat_cmp) k v es)
all_put k v [] is all = (is, tt)
all_put k v (e ∷ es) is all =
    elim (slice_cmp nat_cmp k e.0) as (λ r. slice_cmp nat_cmp k e.0 ≡ r
    → AllByRecursion IsAtDigits (by_order r ((k, v) ∷ e ∷ es) ((e.0, v) ∷ es) (e ∷ put (slice_cmp nat_cmp) k v es))) [
      | Less ↦ λ r. (is, all)
      | Equal ↦ λ r. (subst (λ k. IsAtDigits (k, v)) (exact_bytes k e.0 r) is, all.1)
      | Greater ↦ λ r. (all.0, all_put k v es is all.1)
    ] refl

hidden : (same : Bool) (changes : List Change) (at : List ℕ) (value old below : Option (List ℕ))
    → cond same value (value_after changes at below) ≡ cond same value (value_after changes at (cond same old below))
hidden true changes at value old below = refl
hidden false changes at value old below = refl

-- its value is what is there after all
pub value_after-put : (k : List ℕ) (v : StateChange) (es : List (List ℕ × StateChange)) (at : List ℕ) (below : Option (List ℕ))
    → IsAtDigits (k, v) → AllByRecursion IsAtDigits es → T (is_sorted (slice_cmp nat_cmp) es)
    → value_after (applied (put (slice_cmp nat_cmp) k v es)) at below
    ≡ cond (bytes_eq (change_of v).address at) (change_of v).value (value_after (applied es) at below)
value_after-put k v [] at below is all rises = refl
value_after-put k v (e ∷ es) at below is all rises =
    let b = both_of _ _ rises in
    let new = change_of v in
    let old = change_of e.1 in
    let put_by = λ (r : Ordering). by_order r ((k, v) ∷ e ∷ es) ((e.0, v) ∷ es) (e ∷ put (slice_cmp nat_cmp) k v es) in
    elim (slice_cmp nat_cmp k e.0) as (λ r. slice_cmp nat_cmp k e.0 ≡ r → value_after (applied (put_by r)) at below
    ≡ cond (bytes_eq new.address at) new.value (value_after (applied (e ∷ es)) at below)) [
      | Less ↦ λ r.
          let sorted = is_sorted-put (slice_cmp nat_cmp) nat_list_cmp_total k v (e ∷ es) rises in
          value_after-first k v is at (e ∷ es) below all (both_of _ _ (subst (λ r. T (is_sorted (slice_cmp nat_cmp) (put_by r))) r sorted)).0
      | Equal ↦ λ r.
          let key = exact_bytes k e.0 r in
          let address = encode_lower_once new.address old.address is.1 all.0.1 (sym is.0 ∙ key ∙ all.0.0) in
          value_after-first e.0 v (subst (λ k. IsAtDigits (k, v)) key is) at es below all.1 b.0
          ∙ hidden (bytes_eq new.address at) (applied es) at new.value old.value below
          ∙ ap (λ a. cond (bytes_eq new.address at) new.value (value_after (applied es) at (cond (bytes_eq a at) old.value below))) address
      | Greater ↦ λ r. value_after-put k v es at (cond (bytes_eq old.address at) old.value below) is all.1 b.1
    ] refl
