-- Names with their values: which are there, what a change of one leaves, and how great the values may be.
use Rattle.std.proofs.Common.{◌≡◌, ℕ, ◌+◌, ◌*◌, ◌<◌, ◌≤◌, ◌^◌, ◌||◌, Bool, true, false, cond, not, refl, sym, ap, ap₂, ◌∙◌, arith}
use Rattle.std.proofs.Common.{List, [], ◌∷◌, ◌++◌, map, length, Option, Some, None, Ok, length-append}
use Rattle.std.specs.Prelude.{nat_le}
use Rattle.std.specs.List.{AllByRecursion, list_any}
use Rattle.std.specs.Str.{bytes_eq, chars, is_utf8}
use Rattle.std.specs.Cmp.Lexicographic.{nat_list_eq_equiv}
use Rattle.std.proofs.lemmas.Bool.{and_from, and_parts, cond-true, false≢true, le-leb, not-true, not_from_false, or_from, or_parts}
use Rattle.std.proofs.lemmas.List.{length-map}
use Rattle.std.proofs.lemmas.List.Folds.{list_any-append}
use Rattle.std.proofs.lemmas.Slice.Eq.{bytes_eq-Decides}
use Rattle.saw_messages.specs.Distinct.{are_distinct}
use Rattle.saw_intkey.specs.Laws.{IsCounter, IsPayload}
use Rattle.saw_intkey.specs.Payloads.{max_value}
use Rattle.saw_intkey.specs.States as states
use Rattle.saw_intkey.specs.States.{Names, changed, changed_by, has_name, new_value, replaced, with_value_at}
use Rattle.saw_intkey.specs.declared.payload.Payload.{Payload}
use Rattle.saw_intkey.specs.declared.payload.Verb.TheVariants.{Set, Inc}
use Rattle.saw_generate.specs.Operations.{add_to, set_to}

-- ---- what is kept and of what size

-- a name that a payload may have
pub record IsName (name : List ℕ) : Type 0 where
  pub utf8 : is_utf8 name ≡ true
  pub short : length name < 2 ^ 64
  pub some : 1 ≤ length (chars name)
  pub few : length (chars name) ≤ 20

pub payload_is : (payload : Payload) → IsName payload.name → payload.value ≤ max_value → IsPayload payload
payload_is payload is fits = record { utf8 = is.utf8; short = is.short; some = is.some; few = is.few; fits = fits }

-- how great a value can be after so many changes
abbrev pub limit_after : ℕ → ℕ
limit_after c = 1000 + 10 * c

pub record IsLow (c : ℕ) (entry : List ℕ × ℕ) : Type 0 where
  pub utf8 : is_utf8 entry.0 ≡ true
  pub short : length entry.0 < 2 ^ 64
  pub low : entry.1 ≤ limit_after c

-- names as they can be after so many changes
pub record IsFine (c : ℕ) (names : Names) : Type 0 where
  pub all : AllByRecursion (IsLow c) names
  pub distinct : are_distinct (map (λ entry. entry.0) names) ≡ true
  pub few : length names ≤ c

low_later : (c d : ℕ) → c ≤ d → (entry : List ℕ × ℕ) → IsLow c entry → IsLow d entry
low_later c d later entry is = record { utf8 = is.utf8; short = is.short; low = omega (arith, is.low) }

all_later : (c d : ℕ) → c ≤ d → (names : Names) → AllByRecursion (IsLow c) names → AllByRecursion (IsLow d) names
all_later c d later [] all = tt
all_later c d later (entry ∷ names) all = (low_later c d later entry all.0, all_later c d later names all.1)

pub fine_later : (c d : ℕ) (names : Names) → c ≤ d → IsFine c names → IsFine d names
fine_later c d names later is = record { all = all_later c d later names is.all; distinct = is.distinct; few = omega (arith, is.few) }

pub none_fine : (c : ℕ) → IsFine c []
none_fine c = record { all = tt; distinct = refl; few = omega arith }

-- the changes of a whole stream
abbrev pub most_changes : ℕ
most_changes = 10000000

pub counters_of : (c : ℕ) (names : Names) → c ≤ most_changes → AllByRecursion (IsLow c) names → AllByRecursion IsCounter names
counters_of c [] few all = tt
counters_of c (entry ∷ names) few all = (
  record { utf8 = all.0.utf8; short = all.0.short; fits = omega (arith, all.0.low) },
  counters_of c names few all.1,
)

-- ---- which names are there

same_name : (name other : List ℕ) → bytes_eq name other ≡ true → name ≡ other
same_name name other e = (bytes_eq-Decides name other).0 e

or_swap : (a b : Bool) → (a || (b || false)) ≡ (b || a)
or_swap true true = refl
or_swap true false = refl
or_swap false true = refl
or_swap false false = refl

-- what is there already adds nothing
pub there_already : (here : List ℕ → Bool) (name other : List ℕ) → here name ≡ true → (bytes_eq name other || here other) ≡ here other
there_already here name other e =
    elim (bytes_eq name other) as (λ b. bytes_eq name other ≡ b → (b || here other) ≡ here other) [
      | true ↦ λ same. sym e ∙ ap here (same_name name other same)
      | false ↦ λ differ. refl
    ] refl

name_kept : (b : Bool) (entry : List ℕ × ℕ) (value : ℕ) → (cond b (entry.0, value) entry).0 ≡ entry.0
name_kept true entry value = refl
name_kept false entry value = refl

names-replaced : (name : List ℕ) (value : ℕ) (names : Names) → map (λ entry. entry.0) (replaced name value names) ≡ map (λ entry. entry.0) names
names-replaced name value [] = refl
names-replaced name value (entry ∷ names) = ap₂ ◌∷◌ (name_kept (bytes_eq entry.0 name) entry value) (names-replaced name value names)

has-replaced : (name : List ℕ) (value : ℕ) (other : List ℕ) (names : Names) → has_name other (replaced name value names) ≡ has_name other names
has-replaced name value other [] = refl
has-replaced name value other (entry ∷ names) =
    ap₂ (λ (first : List ℕ) (rest : Bool). bytes_eq first other || rest) (name_kept (bytes_eq entry.0 name) entry value) (has-replaced name value other names)

-- a change of a name leaves that name and those that were there
has-with : (name : List ℕ) (value : ℕ) (other : List ℕ) (names : Names) (b : Bool) → has_name name names ≡ b
    → has_name other (cond b (replaced name value names) (names ++ (name, value) ∷ [])) ≡ (bytes_eq name other || has_name other names)
has-with name value other names true here = has-replaced name value other names ∙ sym (there_already (λ other. has_name other names) name other here)
has-with name value other names false absent =
    list_any-append (λ entry. bytes_eq entry.0 other) names ((name, value) ∷ []) ∙ or_swap (has_name other names) (bytes_eq name other)

pub has_name-with : (name : List ℕ) (value : ℕ) (other : List ℕ) (names : Names)
    → has_name other (with_value_at name value names) ≡ (bytes_eq name other || has_name other names)
has_name-with name value other names = has-with name value other names (has_name name names) refl

-- ---- a change keeps names fine

low_put : (c : ℕ) (b : Bool) (entry : List ℕ × ℕ) (value : ℕ) → value ≤ limit_after c → IsLow c entry → IsLow c (cond b (entry.0, value) entry)
low_put c true entry value low is = record { utf8 = is.utf8; short = is.short; low = low }
low_put c false entry value low is = is

all-replaced : (c : ℕ) (name : List ℕ) (value : ℕ) (names : Names) → value ≤ limit_after c → AllByRecursion (IsLow c) names
    → AllByRecursion (IsLow c) (replaced name value names)
all-replaced c name value [] low all = tt
all-replaced c name value (entry ∷ names) low all =
    (low_put c (bytes_eq entry.0 name) entry value low all.0, all-replaced c name value names low all.1)

all-push : (c : ℕ) (names : Names) (entry : List ℕ × ℕ) → AllByRecursion (IsLow c) names → IsLow c entry → AllByRecursion (IsLow c) (names ++ entry ∷ [])
all-push c [] entry all is = (is, tt)
all-push c (first ∷ names) entry all is = (all.0, all-push c names entry all.1 is)

any-names : (name : List ℕ) (names : Names) → list_any (λ other. bytes_eq other name) (map (λ entry. entry.0) names) ≡ has_name name names
any-names name [] = refl
any-names name (entry ∷ names) = ap (λ b. bytes_eq entry.0 name || b) (any-names name names)

-- a name differs from all of a list that has none like it
differs_from : (first : List ℕ) (names : Names) (name : List ℕ) (value : ℕ) → has_name first names ≡ false → bytes_eq first name ≡ false
    → has_name first (names ++ (name, value) ∷ []) ≡ false
differs_from first names name value absent differ =
    list_any-append (λ entry. bytes_eq entry.0 first) names ((name, value) ∷ [])
    ∙ or_from (has_name first names) (bytes_eq name first || false) absent
    (or_from (bytes_eq name first) false (nat_list_eq_equiv.symm name first ∙ differ) refl)

distinct-push : (name : List ℕ) (value : ℕ) (names : Names) → has_name name names ≡ false → are_distinct (map (λ entry. entry.0) names) ≡ true
    → are_distinct (map (λ entry. entry.0) (names ++ (name, value) ∷ [])) ≡ true
distinct-push name value [] absent distinct = refl
distinct-push name value (entry ∷ names) absent distinct =
    let parts = or_parts (bytes_eq entry.0 name) (has_name name names) absent in
    let was = and_parts (not (list_any (λ other. bytes_eq other entry.0) (map (λ e. e.0) names))) (are_distinct (map (λ e. e.0) names)) distinct in
    let fresh : has_name entry.0 names ≡ false = sym (any-names entry.0 names) ∙ not-true _ was.0 in
    let now : has_name entry.0 (names ++ (name, value) ∷ []) ≡ false = differs_from entry.0 names name value fresh parts.0 in
    and_from (not (list_any (λ other. bytes_eq other entry.0) (map (λ e. e.0) (names ++ (name, value) ∷ []))))
    (are_distinct (map (λ e. e.0) (names ++ (name, value) ∷ [])))
    (not_from_false _ (any-names entry.0 (names ++ (name, value) ∷ []) ∙ now))
    (distinct-push name value names parts.1 was.1)

fine-cases : (c d : ℕ) (name : List ℕ) (value : ℕ) (names : Names) (b : Bool) → has_name name names ≡ b → c < d → IsName name → value ≤ limit_after d
    → IsFine c names → IsFine d (cond b (replaced name value names) (names ++ (name, value) ∷ []))
fine-cases c d name value names true here less is low fine = record {
  all = all-replaced d name value names low (all_later c d (omega arith) names fine.all);
  distinct = ap are_distinct (names-replaced name value names) ∙ fine.distinct;
  few = omega (arith, fine.few, length-map names (λ (entry : List ℕ × ℕ). cond (bytes_eq entry.0 name) (entry.0, value) entry));
}
fine-cases c d name value names false absent less is low fine = record {
  all = all-push d names (name, value) (all_later c d (omega arith) names fine.all) (record { utf8 = is.utf8; short = is.short; low = low });
  distinct = distinct-push name value names absent fine.distinct;
  few = omega (arith, fine.few, length-append names ((name, value) ∷ []));
}

-- fine names stay so when one of them is changed
pub fine-with : (c d : ℕ) (name : List ℕ) (value : ℕ) (names : Names) → c < d → IsName name → value ≤ limit_after d → IsFine c names
    → IsFine d (with_value_at name value names)
fine-with c d name value names less is low fine = fine-cases c d name value names (has_name name names) refl less is low fine

-- ---- the value of a name

absent_value : (name : List ℕ) (names : Names) → has_name name names ≡ false → states.value_at name names ≡ None
absent_value name [] absent = refl
absent_value name (entry ∷ names) absent =
    let parts = or_parts (bytes_eq entry.0 name) (has_name name names) absent in
    ap (λ b. cond b (Some entry.1) (states.value_at name names)) parts.0 ∙ absent_value name names parts.1

record HasValue (c : ℕ) (found : Option ℕ) : Type 0 where
  kept : ℕ
  is : found ≡ Some kept
  low : kept ≤ limit_after c

value_or : (c : ℕ) (name : List ℕ) (entry : List ℕ × ℕ) (names : Names) (b : Bool) → entry.1 ≤ limit_after c → (b || has_name name names) ≡ true
    → (has_name name names ≡ true → HasValue c (states.value_at name names)) → HasValue c (cond b (Some entry.1) (states.value_at name names))
value_or c name entry names true low here later = record { kept = entry.1; is = refl; low = low }
value_or c name entry names false low here later = later here

present_value : (c : ℕ) (name : List ℕ) (names : Names) → has_name name names ≡ true → AllByRecursion (IsLow c) names
    → HasValue c (states.value_at name names)
present_value c name [] here all = absurd (false≢true here)
present_value c name (entry ∷ names) here all =
    value_or c name entry names (bytes_eq entry.0 name) all.0.low here (λ later. present_value c name names later all.1)

-- ---- what payloads make of names

-- a payload that gives its name a value
pub record Makes (payload : Payload) (names : Names) (d : ℕ) : Type 0 where
  pub value : ℕ
  pub is : changed payload names ≡ Ok (with_value_at payload.name value names)
  pub low : value ≤ limit_after d

changed_to : (payload : Payload) (names : Names) (value : ℕ) → new_value payload.verb payload.value (states.value_at payload.name names) ≡ Ok value
    → changed payload names ≡ Ok (with_value_at payload.name value names)
unfolding changed
changed_to payload names value e = ap (changed_by payload.name names) e

-- a name that is not there is set
pub sets : (name : List ℕ) (value : ℕ) (names : Names) (d : ℕ) → has_name name names ≡ false → value ≤ 999 → Makes (set_to name value) names d
sets name value names d absent small = record {
  value = value;
  is = changed_to (set_to name value) names value (ap (new_value Set value) (absent_value name names absent));
  low = omega arith;
}

added : (kept value : ℕ) → kept + value ≤ max_value → new_value Inc value (Some kept) ≡ Ok (kept + value)
added kept value fits = cond-true (nat_le (kept + value) max_value) _ _ (le-leb (kept + value) max_value fits)

-- a name that is there is increased
pub adds : (c d : ℕ) (name : List ℕ) (value : ℕ) (names : Names) → has_name name names ≡ true → IsFine c names → value ≤ 10 → c < d → d ≤ most_changes
    → Makes (add_to name value) names d
adds c d name value names here fine small less few =
    let found = present_value c name names here fine.all in
    let low : found.kept ≤ limit_after c = found.low in
    record {
      value = found.kept + value;
      is = changed_to (add_to name value) names (found.kept + value) (ap (new_value Inc value) found.is ∙ added found.kept value (omega arith));
      low = omega arith;
    }
