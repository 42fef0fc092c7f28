-- A node depends on the addresses below its place alone.
use Rattle.std.proofs.Common.{◌≡◌, ℕ, zero, suc, Bool, true, false, cond, List, [], ◌∷◌, ◌++◌, map, refl, sym, ap, ◌∙◌, Option, Some, None, inl, inr}
use Rattle.std.specs.Prelude.{is_some}
use Rattle.std.specs.Ordering.{nat_cmp, eq_by_cmp, is_eq}
use Rattle.std.specs.Cmp.Lexicographic.{slice_cmp, nat_list_cmp_total}
use Rattle.std.proofs.lemmas.Bool.{true≢false, cases_Bool, or_cases, or_left, or_right, and_parts}
use Rattle.std.proofs.lemmas.Cmp.{tied_itself}
use Rattle.std.proofs.lemmas.List.{append-nil}
use Rattle.std.proofs.lemmas.Map.Lookups.{exact_bytes}
use Rattle.saw_address.specs.Maps.{Entries}
use Rattle.saw_address.specs.Prefixes.{covers}
use Rattle.saw_node.specs.Nodes.{Shape, encoding_of}
use Rattle.saw_node.specs.Trees.{found_at, has_under, next_bytes, all_bytes, node_at}
use Rattle.saw_node.proofs.Places.{covers-append, covers_parts, filter-same}
use Rattle.saw_node.proofs.Found.{tie}
use Rattle.saw_node.proofs.SameRoot.{paired}

-- both have the same at each address that begins with the place
abbrev pub Agree : Entries → Entries → List ℕ → Type 0
Agree es fs place = (q : List ℕ) → covers place q ≡ true → found_at q es ≡ found_at q fs

-- what begins with more begins with less
pub covers-shorter : (p q a : List ℕ) → covers (p ++ q) a ≡ true → covers p a ≡ true
covers-shorter p q a h = let parts = and_parts (covers p a) _ (sym (covers_parts p q a) ∙ h) in parts.0

pub covers-itself : (p : List ℕ) → covers p p ≡ true
covers-itself p = ap (covers p) (sym (append-nil p)) ∙ covers-append p []

-- an address with a value is under each of its prefixes
pub has_from_value : (es : Entries) (place q : List ℕ) → covers place q ≡ true → is_some (found_at q es) ≡ true → has_under es place ≡ true
has_from_value [] place q b h = absurd (true≢false (sym h))
has_from_value (e ∷ es) place q b h =
    elim (cases_Bool (eq_by_cmp (slice_cmp nat_cmp) q e.0)) [
      | inl tied ↦ let same : q ≡ e.0 = exact_bytes _ _ (tie _ tied) in or_left _ _ (ap (covers place) (sym same) ∙ b)
      | inr apart ↦ or_right _ _ (has_from_value es place q b (sym (ap (λ t. is_some (cond t (Some e.1) (found_at q es))) apart) ∙ h))
    ]

-- where some address is under the place, one has a value
pub value_from_has : (es : Entries) (place : List ℕ) → has_under es place ≡ true → (q : List ℕ) × (covers place q ≡ true) × (is_some (found_at q es) ≡ true)
value_from_has [] place h = absurd (true≢false (sym h))
value_from_has (e ∷ es) place h =
    elim (or_cases (covers place e.0) (has_under es place) h) [
      | inl b ↦ (e.0, b, ap (λ r. is_some (cond (is_eq r) (Some e.1) (found_at e.0 es))) (tied_itself nat_list_cmp_total e.0))
      | inr rest ↦
          let found = value_from_has es place rest in
          (found.0, found.1, kept (eq_by_cmp (slice_cmp nat_cmp) found.0 e.0) e.1 (found_at found.0 es) found.2)
    ]
  where
    kept : (t : Bool) (v : List ℕ) (o : Option (List ℕ)) → is_some o ≡ true → is_some (cond t (Some v) o) ≡ true
    kept true v o h = refl
    kept false v o h = h

pub same_tests : (a b : Bool) → (a ≡ true → b ≡ true) → (b ≡ true → a ≡ true) → a ≡ b
same_tests true b f g = sym (f refl)
same_tests false true f g = g refl
same_tests false false f g = refl

pub has_under-Agree : (es fs : Entries) (place : List ℕ) → Agree es fs place → has_under es place ≡ has_under fs place
has_under-Agree es fs place same = same_tests _ _
    (λ h. let found = value_from_has es place h in has_from_value fs place found.0 found.1 (ap is_some (sym (same found.0 found.1)) ∙ found.2))
    (λ h. let found = value_from_has fs place h in has_from_value es place found.0 found.1 (ap is_some (same found.0 found.1) ∙ found.2))

-- below nothing there is nothing
pub has_under-shorter : (es : Entries) (place q : List ℕ) → has_under es (place ++ q) ≡ true → has_under es place ≡ true
has_under-shorter es place q met =
    let found = value_from_has es (place ++ q) met in
    has_from_value es place found.0 (covers-shorter place q found.0 found.1) found.2

pub Agree-longer : (es fs : Entries) (place rest : List ℕ) → Agree es fs place → Agree es fs (place ++ rest)
Agree-longer es fs place rest same q h = same q (covers-shorter place rest q h)

-- a node with this value, and one with these children
abbrev pub leaf_with : Option (List ℕ) → Shape
leaf_with value = record { value = value; children = [] }

abbrev pub node_with : List (ℕ × List ℕ) → Shape
node_with children = record { value = None; children = children }

map-same : {X : Type 0} (f g : ℕ → X) → ((b : ℕ) → f b ≡ g b) → (bs : List ℕ) → map f bs ≡ map g bs
map-same f g same [] = refl
map-same f g same (b ∷ bs) = λ i. same b i ∷ map-same f g same bs i

-- a node is the same in maps that agree below its place
pub node_at-Agree : (hash : List ℕ → List ℕ) (es fs : Entries) (levels : ℕ) (place : List ℕ) → Agree es fs place
    → node_at hash es levels place ≡ node_at hash fs levels place
unfolding node_at
node_at-Agree hash es fs zero place same = ap leaf_with (same place (covers-itself place))
node_at-Agree hash es fs (suc levels) place same =
    let next : next_bytes es place ≡ next_bytes fs place = filter-same _ _
    (λ b. has_under-Agree es fs (place ++ b ∷ []) (Agree-longer es fs place (b ∷ []) same)) all_bytes in
    let f = λ (b : ℕ). hash (encoding_of (node_at hash es levels (place ++ b ∷ []))) in
    let g = λ (b : ℕ). hash (encoding_of (node_at hash fs levels (place ++ b ∷ []))) in
    let each : map (paired f) (next_bytes es place) ≡ map (paired g) (next_bytes fs place) =
    ap (map (paired f)) next
    ∙ map-same (paired f) (paired g)
    (λ b. ap (λ n. paired (λ _. hash (encoding_of n)) b) (node_at-Agree hash es fs levels (place ++ b ∷ []) (Agree-longer es fs place (b ∷ []) same)))
    (next_bytes fs place) in
    ap node_with each
