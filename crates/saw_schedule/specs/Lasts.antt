-- Where each address was changed.
use Rattle.std.specs.Prelude.{◌≡◌, ◌≢◌, ℕ, suc, List, [], ◌∷◌, ◌++◌, length, Option, Some, None, slice_get, if◌then◌else◌}
use Rattle.std.specs.BTreeMap.{get}
use Rattle.std.specs.Cmp.Lexicographic.{slice_cmp}
use Rattle.std.specs.FinMap as finite
use Rattle.std.specs.Global.{Global}
use Rattle.std.specs.Ordering.{nat_cmp}
use Rattle.std.specs.Str.{bytes_eq}
use Rattle.std.specs.declared.vec.Vec.{Vec}
use Rattle.saw_messages.specs.declared.outcome.Change.{Change}
use Rattle.saw_messages.specs.declared.outcome.Outcome.{Outcome}
use Rattle.saw_messages.specs.declared.outcome.Outcome.TheVariants.{Ok, Invalid}
use Rattle.saw_ready.specs.Sets.{IsEmpty}
use Rattle.saw_schedule.specs.declared.lasts.Lasts.{Lasts}
use Rattle.saw_schedule.specs.declared.lasts.Left.{Left}
use Rattle.saw_schedule.specs.declared.step.Step.{Step}
use Rattle.saw_schedule.specs.declared.step.Step.TheVariants.{Take, Finish, GiveBack}

abbrev pub items_in : Option (Vec Left Global) → List Left
items_in None = []
items_in (Some list) = list.items

-- the changes that are kept of an address
abbrev pub lefts_at : Lasts → List ℕ → List Left
lefts_at lasts at = items_in (get (slice_cmp nat_cmp) lasts.lists at)

-- one more change of a whole address
pub record IsAdded (old new : Lasts) (at : List ℕ) (left : Left) : Type 0 where
  pub whole : length at ≡ 35
  pub here : lefts_at new at ≡ lefts_at old at ++ left ∷ []
  pub others : (address : List ℕ) → address ≢ at → lefts_at new address ≡ lefts_at old address

-- ---- of steps

abbrev pub changes_by : Outcome → List Change
changes_by (Ok changes events) = changes
changes_by (Invalid reason) = []

-- the changes of the result that a step brings
abbrev pub changes_in : Step → List Change
changes_in (Take ticket) = []
changes_in (Finish done) = changes_by done.outcome
changes_in (GiveBack ticket) = []

abbrev pub changes_if : Option Step → List Change
changes_if None = []
changes_if (Some step) = changes_in step

abbrev pub changes_at : List Step → ℕ → List Change
changes_at steps place = changes_if (slice_get steps place)

-- where an address is changed, by changes from number n on of the result at a place
abbrev pub lefts_in : ℕ → ℕ → List Change → List ℕ → List Left
lefts_in place n [] at = []
lefts_in place n (change ∷ changes) at =
    (if bytes_eq change.address at then record { place = place; change = n } ∷ [] else []) ++ lefts_in place (suc n) changes at

-- where an address is changed, by steps of which the first stands at a place
abbrev pub lefts_of : ℕ → List Step → List ℕ → List Left
lefts_of place [] at = []
lefts_of place (step ∷ steps) at = lefts_in place 0 (changes_in step) at ++ lefts_of (suc place) steps at

-- nothing was gone through, of so many transactions
pub record IsNothing (count : ℕ) (lasts : Lasts) : Type 0 where
  pub none : (at : List ℕ) → lefts_at lasts at ≡ []
  pub no_layers : (at : List ℕ) → finite.get lasts.layers at ≡ None
  pub long : length lasts.undone ≡ count
  pub idle : IsEmpty lasts.undone
  pub place : lasts.place ≡ 0
  pub change : lasts.change ≡ 0
