-- One more change of an address.
use Rattle.std.proofs.Common.{length, ◌≡◌, ◌≢◌, ℕ, Bool, true, false, List, [], ◌∷◌, ◌++◌, Option, Some, None, Vec, refl, sym, ap, subst, ◌∙◌, bytes_eq, IsSome, OnErr, Result, Ok, Err}
use Rattle.std.proofs.lemmas.Map.Text.{is_eq-slice_cmp}
use Rattle.std.proofs.lemmas.Slice.Eq.{bytes_eq-Decides}
use Rattle.std.specs.BTreeMap.{UpdatesBy, get, is_at}
use Rattle.std.specs.Cmp.Lexicographic.{slice_cmp}
use Rattle.std.specs.Global.{Global}
use Rattle.std.specs.Ordering.{nat_cmp}
use Rattle.saw_schedule.specs.Lasts.{IsAdded, items_in, lefts_at}
use Rattle.saw_schedule.specs.declared.lasts.Lasts.{Lasts}
use Rattle.saw_schedule.specs.declared.lasts.Left.{Left}

other : (at q : List ℕ) → q ≢ at → is_at (slice_cmp nat_cmp at) q ≡ false
other at q apart = is_eq-slice_cmp at q ∙ go (bytes_eq at q) refl
  where
    go : (b : Bool) → bytes_eq at q ≡ b → b ≡ false
    go true e = absurd (apart (sym ((bytes_eq-Decides at q).0 e)))
    go false e = refl

-- the list of the address has one more, and those of others stay
pub is-added : (old new : Lasts) (at : List ℕ) (left : Left) (list : Vec Left Global) → get (slice_cmp nat_cmp) new.lists at ≡ Some list
    → list.items ≡ lefts_at old at ++ left ∷ []
    → ((q : List ℕ) → is_at (slice_cmp nat_cmp at) q ≡ false → get (slice_cmp nat_cmp) new.lists q ≡ get (slice_cmp nat_cmp) old.lists q)
    → length at ≡ 35 → IsAdded old new at left
is-added old new at left list here more others whole = record {
  whole = whole;
  here = ap items_in here ∙ more;
  others = λ q apart. ap items_in (others q (other at q apart));
}

-- the list of the address is as it was, and so are those of others
pub is-same : (old new : Lasts) (at : List ℕ) (list : Vec Left Global) → get (slice_cmp nat_cmp) new.lists at ≡ Some list
    → list.items ≡ lefts_at old at
    → ((q : List ℕ) → is_at (slice_cmp nat_cmp at) q ≡ false → get (slice_cmp nat_cmp) new.lists q ≡ get (slice_cmp nat_cmp) old.lists q)
    → (q : List ℕ) → lefts_at new q ≡ lefts_at old q
is-same old new at list here same others q = go (bytes_eq at q) refl
  where
    go : (b : Bool) → bytes_eq at q ≡ b → lefts_at new q ≡ lefts_at old q
    go true e = let is : at ≡ q = (bytes_eq-Decides at q).0 e in subst (λ (x : List ℕ). lefts_at new x ≡ lefts_at old x) is (ap items_in here ∙ same)
    go false e = ap items_in (others q (is_eq-slice_cmp at q ∙ e))

module _ (old new : Lasts) (at : List ℕ) (was list : Vec Left Global) (there : Some was ≡ get (slice_cmp nat_cmp) old.lists at)
    (updates : IsSome (get (slice_cmp nat_cmp) old.lists at) → UpdatesBy (slice_cmp nat_cmp) (slice_cmp nat_cmp at) old.lists new.lists (Some list)) where
  changes : UpdatesBy (slice_cmp nat_cmp) (slice_cmp nat_cmp at) old.lists new.lists (Some list)
  changes = updates (subst (λ (o : Option (Vec Left Global)). IsSome o) there refl)

  -- the list that is there gets one more
  pub written : (left : Left) → list.items ≡ was.items ++ left ∷ [] → length at ≡ 35 → IsAdded old new at left
  written left more whole = is-added old new at left list changes.1 (more ∙ ap (λ (o : Option (Vec Left Global)). items_in o ++ left ∷ []) there) changes.2 whole

  -- the list that is there stays as it was
  pub kept : list.items ≡ was.items → (q : List ℕ) → lefts_at new q ≡ lefts_at old q
  kept same = is-same old new at list changes.1 (same ∙ ap items_in there) changes.2

  -- what the list of the address is, and that those of others stay
  pub changed : (lefts_at new at ≡ list.items) × (lefts_at old at ≡ was.items) × ((q : List ℕ) → bytes_eq at q ≡ false → lefts_at new q ≡ lefts_at old q)
  changed = (ap items_in changes.1, ap items_in (sym there), λ q apart. ap items_in (changes.2 q (is_eq-slice_cmp at q ∙ apart)))

-- a first change of an address
pub inserted : (old mid new : Lasts) (at : List ℕ) (left : Left) (list : Vec Left Global) → None ≡ get (slice_cmp nat_cmp) old.lists at → mid.lists ≡ old.lists
    → list.items ≡ [] ++ left ∷ [] → UpdatesBy (slice_cmp nat_cmp) (slice_cmp nat_cmp at) mid.lists new.lists (Some list) → length at ≡ 35 → IsAdded old new at left
inserted old mid new at left list none same items updates whole =
    is-added old new at left list updates.1 (items ∙ ap (λ (o : Option (Vec Left Global)). items_in o ++ left ∷ []) none)
    (λ q apart. updates.2 q apart ∙ ap (λ lists. get (slice_cmp nat_cmp) lists q) same) whole

pub on_err : {A E : Type 0} (P : Type 0) (r : Result A E) → P → OnErr r P
on_err P (Ok x) p = tt
on_err P (Err e) p = p
