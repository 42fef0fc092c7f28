-- Names that are read one after another, each of them new.
use Rattle.std.proofs.Common.{◌≡◌, ℕ, ◌||◌, Bool, true, false, cond, Option, Some, None, List, [], ◌∷◌, ◌++◌, refl, sym, ap, ◌∙◌}
use Rattle.std.specs.Str.{bytes_eq}
use Rattle.std.specs.Cmp.Lexicographic.{nat_list_eq_equiv}
use Rattle.std.proofs.lemmas.Bool.{or_parts, or_from, false≢true}
use Rattle.std.proofs.lemmas.List.Folds.{list_any-append}
use Rattle.std.proofs.lemmas.Slice.Eq.{bytes_eq-Decides}
use Rattle.saw_intkey.specs.States.{Names, has_name, with_entry}

-- names in front of those that are still read
abbrev pub before : Names → Option Names → Option Names
before [] rest = rest
before (entry ∷ front) rest = with_entry (Some entry.0) (Some entry.1) (before front rest)

pub before-push : (front : Names) (entry : List ℕ × ℕ) (rest : Option Names)
    → before front (with_entry (Some entry.0) (Some entry.1) rest) ≡ before (front ++ entry ∷ []) rest
before-push [] entry rest = refl
before-push (first ∷ front) entry rest = ap (with_entry (Some first.0) (Some first.1)) (before-push front entry rest)

pub before-None : (front : Names) → before front None ≡ None
before-None [] = refl
before-None (entry ∷ front) = ap (with_entry (Some entry.0) (Some entry.1)) (before-None front)

some_is : (x y : Names) → Some x ≡ Some y → x ≡ y
some_is x y e = cc

-- an entry that was added was new
added : (b : Bool) (names all : Names) → cond b None (Some names) ≡ Some all → (b ≡ false) × (names ≡ all)
added true names all e = absurd cc
added false names all e = (refl, some_is names all e)

record IsAdded (entry : List ℕ × ℕ) (rest : Option Names) (all : Names) : Type 0 where
  names : Names
  is : rest ≡ Some names
  fresh : has_name entry.0 names ≡ false
  whole : entry ∷ names ≡ all

added_to : (entry : List ℕ × ℕ) (rest : Option Names) (all : Names) → with_entry (Some entry.0) (Some entry.1) rest ≡ Some all → IsAdded entry rest all
added_to entry None all e = absurd cc
added_to entry (Some names) all e =
    let k = added (has_name entry.0 names) (entry ∷ names) all e in
    record { names = names; is = refl; fresh = k.0; whole = k.1 }

or_second : (a b : Bool) → b ≡ true → (a || b) ≡ true
or_second true b e = refl
or_second false b e = e

or_first : (a b : Bool) → a ≡ true → (a || b) ≡ true
or_first a b e = ap (λ x. x || b) e

-- what stands behind a front is among the names
in_before : (front : Names) (entry : List ℕ × ℕ) (rest : Option Names) (all : Names)
    → before front (with_entry (Some entry.0) (Some entry.1) rest) ≡ Some all → has_name entry.0 all ≡ true
in_before [] entry rest all e =
    let k = added_to entry rest all e in
    ap (has_name entry.0) (sym k.whole) ∙ or_first (bytes_eq entry.0 entry.0) (has_name entry.0 k.names) (nat_list_eq_equiv.refl entry.0)
in_before (first ∷ front) entry rest all e =
    let k = added_to first (before front (with_entry (Some entry.0) (Some entry.1) rest)) all e in
    ap (has_name entry.0) (sym k.whole) ∙ or_second (bytes_eq first.0 entry.0) (has_name entry.0 k.names) (in_before front entry rest k.names k.is)

-- nothing comes of a name that is taken
taken_by : (entry : List ℕ × ℕ) (rest : Option Names) → ((all : Names) → rest ≡ Some all → has_name entry.0 all ≡ true)
    → with_entry (Some entry.0) (Some entry.1) rest ≡ None
taken_by entry None h = refl
taken_by entry (Some names) h = ap (λ b. cond b None (Some (entry ∷ names))) (h names refl)

taken_or : (b : Bool) (first : List ℕ × ℕ) (front : Names) (entry : List ℕ × ℕ) (rest : Option Names) → bytes_eq first.0 entry.0 ≡ b
    → (b || has_name entry.0 front) ≡ true
    → (has_name entry.0 front ≡ true → before front (with_entry (Some entry.0) (Some entry.1) rest) ≡ None)
    → before (first ∷ front) (with_entry (Some entry.0) (Some entry.1) rest) ≡ None
taken_or true first front entry rest same h later =
    let e : first.0 ≡ entry.0 = (bytes_eq-Decides first.0 entry.0).0 same in
    taken_by first (before front (with_entry (Some entry.0) (Some entry.1) rest))
    (λ all is. ap (λ name. has_name name all) e ∙ in_before front entry rest all is)
taken_or false first front entry rest same h later = ap (with_entry (Some first.0) (Some first.1)) (later h)

pub before_taken : (front : Names) (entry : List ℕ × ℕ) (rest : Option Names) → has_name entry.0 front ≡ true
    → before front (with_entry (Some entry.0) (Some entry.1) rest) ≡ None
before_taken [] entry rest h = absurd (false≢true h)
before_taken (first ∷ front) entry rest h = taken_or (bytes_eq first.0 entry.0) first front entry rest refl h (λ later. before_taken front entry rest later)

tail_is : (first : List ℕ × ℕ) (front names : Names) → first ∷ names ≡ first ∷ front → names ≡ front
tail_is first front names e = cc

not_in_push : (name : List ℕ) (front : Names) (entry : List ℕ × ℕ) → has_name name front ≡ false → bytes_eq entry.0 name ≡ false
    → has_name name (front ++ entry ∷ []) ≡ false
not_in_push name front entry absent other = list_any-append (λ e. bytes_eq e.0 name) front (entry ∷ [])
    ∙ or_from (has_name name front) (has_name name (entry ∷ [])) absent (or_from (bytes_eq entry.0 name) false other refl)

pub before_fresh : (front : Names) (entry : List ℕ × ℕ) → has_name entry.0 front ≡ false → before front (Some []) ≡ Some front
    → before (front ++ entry ∷ []) (Some []) ≡ Some (front ++ entry ∷ [])
before_fresh [] entry h so_far = refl
before_fresh (first ∷ front) entry h so_far =
    let k = added_to first (before front (Some [])) (first ∷ front) so_far in
    let same : k.names ≡ front = tail_is first front k.names k.whole in
    let parts = or_parts (bytes_eq first.0 entry.0) (has_name entry.0 front) h in
    let later = before_fresh front entry parts.1 (k.is ∙ ap Some same) in
    let other : bytes_eq entry.0 first.0 ≡ false = nat_list_eq_equiv.symm entry.0 first.0 ∙ parts.0 in
    let absent : has_name first.0 (front ++ entry ∷ []) ≡ false = not_in_push first.0 front entry (ap (has_name first.0) (sym same) ∙ k.fresh) other in
    ap (with_entry (Some first.0) (Some first.1)) later ∙ ap (λ b. cond b None (Some (first ∷ (front ++ entry ∷ [])))) absent
