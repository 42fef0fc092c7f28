-- One pair after another of kept names, as a loop reads them.
use Rattle.std.proofs.Common.{◌≡◌, ℕ, ◌+◌, ◌<◌, ◌≤◌, true, false, Option, Some, None, List, [], ◌∷◌, ◌++◌, length, get_or, drop, sym, ap, ◌∙◌}
use Rattle.std.proofs.lemmas.List.{drop_more, drop_all}
use Rattle.saw_cbor.specs.View.{view, pair_view, pairs_view}
use Rattle.saw_cbor.specs.declared.item.Pair.{Pair}
use Rattle.saw_cbor.proofs.Views.{pair_view-key, pair_view-value}
use Rattle.saw_intkey.specs.Payloads.{text_in, unsigned_in}
use Rattle.saw_intkey.specs.States.{Names, has_name, names_in, with_entry}
use Rattle.saw_intkey.proofs.Distinct.{before, before-None, before-push, before_taken, before_fresh}

-- what the pairs from a place on say, where the first of them has this name and this value
abbrev names_from : Option (List ℕ) → Option ℕ → ℕ → List Pair → Option Names
names_from name value i ps = with_entry name value (names_in (pairs_view (drop (i + 1) ps)))

names_in-drop : (ps : List Pair) (i : ℕ) (p : Pair) (name : Option (List ℕ)) → i < length ps → p ≡ get_or ps i p → name ≡ text_in Some (Some (view p.key))
    → names_in (pairs_view (drop i ps)) ≡ names_from name (unsigned_in (Some (view p.value))) i ps
names_in-drop ps i p name lt here key =
    ap (λ xs. names_in (pairs_view xs)) (drop_more ps i p lt ∙ ap (λ x. x ∷ drop (i + 1) ps) (sym here))
    ∙ ap (λ c. names_from (text_in Some (Some c)) (unsigned_in (Some (pair_view p).1)) i ps) (pair_view-key p)
    ∙ ap (λ c. names_from (text_in Some (Some (view p.key))) (unsigned_in (Some c)) i ps) (pair_view-value p)
    ∙ ap (λ n. names_from n (unsigned_in (Some (view p.value))) i ps) (sym key)

-- the key is no text
pub no_name : (front : Names) (ps : List Pair) (i : ℕ) (p : Pair) (whole : Option Names) → i < length ps → p ≡ get_or ps i p
    → None ≡ text_in Some (Some (view p.key))
    → before front (names_in (pairs_view (drop i ps))) ≡ whole → None ≡ whole
no_name front ps i p whole lt here key so_far = sym (before-None front) ∙ ap (before front) (sym (names_in-drop ps i p None lt here key)) ∙ so_far

-- the value is no number, or too great
pub no_value : (front : Names) (ps : List Pair) (i : ℕ) (p : Pair) (name : List ℕ) (whole : Option Names) → i < length ps → p ≡ get_or ps i p
    → Some name ≡ text_in Some (Some (view p.key))
    → None ≡ unsigned_in (Some (view p.value)) → before front (names_in (pairs_view (drop i ps))) ≡ whole → None ≡ whole
no_value front ps i p name whole lt here key value so_far =
    sym (before-None front) ∙ ap (before front) (sym (names_in-drop ps i p (Some name) lt here key
    ∙ ap (λ v. names_from (Some name) v i ps) (sym value))) ∙ so_far

-- the name was met before
pub again : (front : Names) (ps : List Pair) (i : ℕ) (p : Pair) (name : List ℕ) (value : ℕ) (whole : Option Names) → i < length ps → p ≡ get_or ps i p
    → Some name ≡ text_in Some (Some (view p.key))
    → Some value ≡ unsigned_in (Some (view p.value)) → true ≡ has_name name front → before front (names_in (pairs_view (drop i ps))) ≡ whole → None ≡ whole
again front ps i p name value whole lt here key number met so_far =
    let rest = names_in (pairs_view (drop (i + 1) ps)) in
    sym (before_taken front (name, value) rest (sym met)) ∙ ap (before front)
    (sym (names_in-drop ps i p (Some name) lt here key ∙ ap (λ v. names_from (Some name) v i ps) (sym number))) ∙ so_far

-- what the loop knows of the names read and of the pairs from a place on
pub record IsReadUpTo (names : Names) (i : ℕ) (ps : List Pair) : Type 0 where
  pub goes_on : before names (names_in (pairs_view (drop i ps))) ≡ names_in (pairs_view ps)
  pub distinct : before names (Some []) ≡ Some names

pub none_read : (names : Names) (ps : List Pair) → names ≡ [] → IsReadUpTo names 0 ps
none_read names ps none = record {
  goes_on = ap (λ x. before x (names_in (pairs_view ps))) none;
  distinct = ap (λ x. before x (Some [])) none ∙ ap Some (sym none);
}

pub one_more : (front new : Names) (ps : List Pair) (i : ℕ) (p : Pair) (name made : List ℕ) (value : ℕ) → i < length ps → p ≡ get_or ps i p
    → Some name ≡ text_in Some (Some (view p.key))
    → Some value ≡ unsigned_in (Some (view p.value)) → false ≡ has_name name front → made ≡ name → new ≡ front ++ (made, value) ∷ []
    → IsReadUpTo front i ps → IsReadUpTo new (i + 1) ps
one_more front new ps i p name made value lt here key number fresh copied pushed so_far =
    let rest = names_in (pairs_view (drop (i + 1) ps)) in
    let is : new ≡ front ++ (name, value) ∷ [] = pushed ∙ ap (λ m. front ++ (m, value) ∷ []) copied in
    let next : before (front ++ (name, value) ∷ []) rest ≡ names_in (pairs_view ps) =
    sym (before-push front (name, value) rest) ∙ ap (before front)
    (sym (names_in-drop ps i p (Some name) lt here key ∙ ap (λ v. names_from (Some name) v i ps) (sym number))) ∙ so_far.goes_on in
    let all : before (front ++ (name, value) ∷ []) (Some []) ≡ Some (front ++ (name, value) ∷ []) =
    before_fresh front (name, value) (sym fresh) so_far.distinct in
    record {
      goes_on = ap (λ x. before x rest) is ∙ next;
      distinct = ap (λ x. before x (Some [])) is ∙ all ∙ ap Some (sym is);
    }

pub all_read : (names : Names) (i : ℕ) (ps : List Pair) → length ps ≤ i → IsReadUpTo names i ps → Some names ≡ names_in (pairs_view ps)
all_read names i ps past so_far = sym so_far.distinct ∙ ap (λ xs. before names (names_in (pairs_view xs))) (sym (drop_all i ps past)) ∙ so_far.goes_on
