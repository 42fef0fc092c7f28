-- Ids by the ways they go, and lists with one id more.
use Rattle.std.proofs.Common.{◌≡◌, ℕ, Bool, true, false, List, [], ◌∷◌, ◌++◌, refl, rules, ◌∙◌, ap}
use Rattle.std.specs.Prelude.{not, ◌==◌, ◌&&◌, ◌||◌, filter, if◌then◌else◌}
use Rattle.std.specs.List.{list_any}
use Rattle.std.specs.Str.{bytes_eq}
use Rattle.std.proofs.Math.Bool.{and-false, or-false}
use Rattle.std.proofs.lemmas.List.Folds.{list_any-append}
use Rattle.std.proofs.lemmas.Map.Views.{any-filter_same}
use Rattle.std.proofs.lemmas.Slice.Eq.{bytes_eq-Decides}
use Rattle.saw_ids.specs.Sets.{entries_of, goes, has, is_marked, mark_of, text_of, turns}
use Rattle.saw_ids.specs.declared.set.Marked.{Marked}
use Rattle.saw_ids.specs.declared.set.Tree.{Tree, Few}

is_marked-entries_of : (ids : List Marked) (id : List ℕ) → list_any (λ other. other.mark == mark_of id && bytes_eq (text_of other) id) ids
    ≡ is_marked (entries_of ids) id
is_marked-entries_of [] id = refl
is_marked-entries_of (other ∷ ids) id = ap (λ b. (other.mark == mark_of id && bytes_eq (text_of other) id) || b) (is_marked-entries_of ids id)

same_number : (n : ℕ) → (n == n) ≡ true
same_number n = search rules

-- of the id's own mark only the text decides
by_text : (id other : List ℕ) (same : Bool) → bytes_eq id other ≡ same → (mark_of id == mark_of other && same) ≡ same
by_text id other true is = rw ((bytes_eq-Decides id other).0 is, same_number (mark_of other)) refl
by_text id other false is = and-false (mark_of id == mark_of other)

pub is_marked-push : (entries : List (ℕ × List ℕ)) (id other : List ℕ)
    → is_marked (entries ++ (mark_of id, id) ∷ []) other ≡ (is_marked entries other || bytes_eq id other)
is_marked-push entries id other =
    list_any-append (λ (one : ℕ × List ℕ). one.0 == mark_of other && bytes_eq one.1 other) entries ((mark_of id, id) ∷ [])
    ∙ ap (λ b. is_marked entries other || b) (or-false (mark_of id == mark_of other && bytes_eq id other)
    ∙ by_text id other (bytes_eq id other) refl)

second : (a b : Bool) → (a && b) ≡ true → b ≡ true
second true b e = e
second false b e = absurd cc

-- equal ids go one way
same_way : (bit : ℕ) (way : Bool) (one : ℕ × List ℕ) (other : List ℕ) → (one.0 == mark_of other && bytes_eq one.1 other) ≡ true
    → goes bit way one ≡ goes bit way (mark_of other, other)
same_way bit true one other same =
    ap (λ (id : List ℕ). turns id bit) ((bytes_eq-Decides one.1 other).0 (second (one.0 == mark_of other) (bytes_eq one.1 other) same))
same_way bit false one other same =
    ap (λ (id : List ℕ). not (turns id bit)) ((bytes_eq-Decides one.1 other).0 (second (one.0 == mark_of other) (bytes_eq one.1 other) same))

-- who goes one way is among those who do, or not there
kept_way : (entries : List (ℕ × List ℕ)) (bit : ℕ) (way : Bool) (other : List ℕ) → goes bit way (mark_of other, other) ≡ true
    → is_marked (filter (goes bit way) entries) other ≡ is_marked entries other
kept_way entries bit way other so =
    any-filter_same (λ one. one.0 == mark_of other && bytes_eq one.1 other) (goes bit way) true (λ one same. same_way bit way one other same ∙ so) entries

pub parted : (entries : List (ℕ × List ℕ)) (bit : ℕ) (other : List ℕ)
    → (if turns other bit then is_marked (filter (goes bit true) entries) other else is_marked (filter (goes bit false) entries) other)
    ≡ is_marked entries other
parted entries bit other = by_way (turns other bit) refl where
  by_way : (way : Bool) → turns other bit ≡ way
      → (if way then is_marked (filter (goes bit true) entries) other else is_marked (filter (goes bit false) entries) other) ≡ is_marked entries other
  by_way true so = kept_way entries bit true other so
  by_way false so = kept_way entries bit false other (ap not so)

pub has-few : (tree : Tree) (bit : ℕ) (ids seen : List Marked) (id : List ℕ) (mark : ℕ) → tree ≡ Few bit ids → seen ≡ ids → mark ≡ mark_of id
    → list_any (λ other. other.mark == mark && bytes_eq (text_of other) id) seen ≡ has tree id
has-few tree bit ids seen id mark is same marks = rw (is, same, marks) (is_marked-entries_of ids id)
