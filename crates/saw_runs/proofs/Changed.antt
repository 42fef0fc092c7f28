-- Changes show only below the places that they touch.
use Rattle.std.proofs.Common.{◌≡◌, ℕ, true, false, cond, List, [], ◌∷◌, ◌++◌, bytes_eq, refl, sym, ap, ◌∙◌, Option, inl, inr}
use Rattle.std.specs.Prelude.{is_some}
use Rattle.std.specs.List.{filter, AllByRecursion}
use Rattle.std.specs.FinMap as finite
use Rattle.std.proofs.lemmas.Bool.{cases_Bool, both_ways, false_from_ne_true}
use Rattle.std.proofs.lemmas.Slice.Eq.{bytes_eq-Decides}
use Rattle.saw_address.specs.Maps.{StateMap, value_at, changed_at, is_address}
use Rattle.saw_address.specs.Prefixes.{covers}
use Rattle.saw_address.proofs.Finite.{value_at-changed_at}
use Rattle.saw_context.specs.Outcome.{map_after}
use Rattle.saw_context.proofs.OnTop.{value_after, value_at-map_after}
use Rattle.saw_messages.specs.declared.outcome.Change.{Change}
use Rattle.saw_runs.specs.Places.{AreAddressed}
use Rattle.saw_runs.proofs.Local.{Agree}

-- the changes below a place
abbrev pub changes_under : List ℕ → List Change → List Change
changes_under place changes = filter (λ change. covers place change.address) changes

value_after_under : (place q : List ℕ) (changes : List Change) (below : Option (List ℕ)) → covers place q ≡ true
    → value_after changes q below ≡ value_after (changes_under place changes) q below
value_after_under place q [] below h = refl
value_after_under place q (change ∷ changes) below h =
    elim (covers place change.address) as
    (λ t. covers place change.address ≡ t
    → value_after changes q (cond (bytes_eq change.address q) change.value below) ≡ value_after
    (cond t (change ∷ changes_under place changes) (changes_under place changes)) q below) [
      | true ↦ λ e. value_after_under place q changes (cond (bytes_eq change.address q) change.value below) h
      | false ↦ λ e.
          let apart : bytes_eq change.address q ≡ false = false_from_ne_true (bytes_eq change.address q)
          (λ same. both_ways (covers place change.address) e (ap (covers place) ((bytes_eq-Decides change.address q).0 same) ∙ h)) in
          ap (λ t. value_after changes q (cond t change.value below)) apart ∙ value_after_under place q changes below h
    ] refl

-- what two maps have below a place after changes depends on what they had there and on the changes there
pub Agree-after : (m n : StateMap) (cs ds : List Change) (place : List ℕ) → Agree (finite.entries m) (finite.entries n) place
    → changes_under place cs ≡ changes_under place ds → Agree (finite.entries (map_after m cs)) (finite.entries (map_after n ds)) place
Agree-after m n cs ds place same alike q h =
    let before : value_at m q ≡ value_at n q = finite.get-entries m q ∙ same q h ∙ sym (finite.get-entries n q) in
    sym (finite.get-entries (map_after m cs) q)
    ∙ value_at-map_after m cs q ∙ value_after_under place q cs (value_at m q) h
    ∙ (λ i. value_after (alike i) q (before i))
    ∙ sym (value_at-map_after n ds q ∙ value_after_under place q ds (value_at n q) h)
    ∙ finite.get-entries (map_after n ds) q

-- of one map
pub Agree-changes : (m : StateMap) (cs ds : List Change) (place : List ℕ) → changes_under place cs ≡ changes_under place ds
    → Agree (finite.entries (map_after m cs)) (finite.entries (map_after m ds)) place
Agree-changes m cs ds place alike = Agree-after m m cs ds place (λ q h. refl) alike

-- changes elsewhere leave what lies below a place
pub Agree-untouched : (m : StateMap) (cs : List Change) (place : List ℕ) → changes_under place cs ≡ []
    → Agree (finite.entries m) (finite.entries (map_after m cs)) place
Agree-untouched m cs place none = Agree-changes m [] cs place (sym none)

pub under-append : (place : List ℕ) (xs ys : List Change) → changes_under place (xs ++ ys) ≡ changes_under place xs ++ changes_under place ys
under-append place [] ys = refl
under-append place (x ∷ xs) ys =
    let rest = under-append place xs ys in
    elim (covers place x.address) as
    (λ t. cond t (x ∷ changes_under place (xs ++ ys)) (changes_under place (xs ++ ys)) ≡ cond t (x ∷ changes_under place xs) (changes_under place xs)
    ++ changes_under place ys) [
      | true ↦ ap (λ zs. x ∷ zs) rest
      | false ↦ rest
    ]

pub under_none : (place : List ℕ) (xs : List Change) → AllByRecursion (λ change. covers place change.address ≡ false) xs → changes_under place xs ≡ []
under_none place [] all = refl
under_none place (x ∷ xs) all = ap (λ t. cond t (x ∷ changes_under place xs) (changes_under place xs)) all.0 ∙ under_none place xs all.1

-- ---- addresses

changed_addressed : (m : StateMap) (address : List ℕ) (value : Option (List ℕ)) → is_address address ≡ true → AreAddressed m
    → AreAddressed (changed_at m address value)
changed_addressed m address value is are q some =
    elim (cases_Bool (bytes_eq address q)) [
      | inl same ↦ ap is_address (sym ((bytes_eq-Decides address q).0 same)) ∙ is
      | inr apart ↦ are q (sym (ap is_some (value_at-changed_at m address value q ∙ ap (λ t. cond t value (value_at m q)) apart)) ∙ some)
    ]

-- changes of addresses leave addresses
pub addressed_after : (m : StateMap) (changes : List Change) → AllByRecursion (λ change. is_address change.address ≡ true) changes → AreAddressed m
    → AreAddressed (map_after m changes)
addressed_after m [] all are = are
addressed_after m (change ∷ changes) all are = addressed_after (changed_at m change.address change.value) changes all.1
    (changed_addressed m change.address change.value all.0 are)
