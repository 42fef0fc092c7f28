-- What stands at addresses, by runs of marks.
use Rattle.std.proofs.Common.{◌≡◌, ℕ, ◌+◌, ◌<◌, Bool, true, false, cond, List, [], ◌∷◌, drop, get_or, length, Option, Some, None, option_map, unwrap_or, bytes_eq, refl, sym, ap, subst, ◌∙◌}
use Rattle.std.specs.Arc.{arc_value}
use Rattle.std.specs.BTreeMap.{get, is_at, IsOrdered}
use Rattle.std.specs.Cmp.{eq_by_cmp_equiv}
use Rattle.std.specs.Cmp.Lexicographic.{slice_cmp, nat_list_cmp_total}
use Rattle.std.specs.FinMap as finite
use Rattle.std.specs.FinMap.Entries.{find}
use Rattle.std.specs.Global.{Global}
use Rattle.std.specs.List.{IsDistinct}
use Rattle.std.specs.Map.{keys_of, lookup, update_all}
use Rattle.std.specs.Option.{option_or}
use Rattle.std.specs.Ordering.{nat_cmp, eq_by_cmp}
use Rattle.std.specs.declared.sync.Arc.{Arc}
use Rattle.std.proofs.lemmas.List.{drop_more}
use Rattle.std.proofs.lemmas.Map.Keys.{IsDistinct-from_sorted}
use Rattle.std.proofs.lemmas.Map.Made.{update_all_distinct}
use Rattle.std.proofs.lemmas.Map.Text.{is_eq-slice_cmp}
use Rattle.saw_address.proofs.Finite.{find-lookup}
use Rattle.saw_context.proofs.Keys.{same_key}
use Rattle.saw_context.specs.Runs.{Marks, Standing, entry_of, last_of, layers_in, mark_in, marked, marked_by, marks_of, runs_of, shown_in}
use Rattle.saw_context.specs.declared.layers.ViewMark.{ViewMark}
use Rattle.saw_context.specs.declared.layers.Run.{Run}
use Rattle.saw_context.specs.declared.view.ViewEntry.{ViewEntry}

-- entries of a run
abbrev Entries : Type 0
Entries = List (List ℕ × Arc ViewMark Global)

-- ---- what is found

option_map-cond : (same : Bool) (mark : Arc ViewMark Global) (found : Option (Arc ViewMark Global))
    → option_map entry_of (cond same (Some mark) found) ≡ cond same (Some (entry_of mark)) (option_map entry_of found)
option_map-cond true mark found = refl
option_map-cond false mark found = refl

unwrap_or-cond : (same : Bool) (entry below : Option ViewEntry) (found : Option (Option ViewEntry))
    → unwrap_or (cond same (Some entry) found) below ≡ cond same entry (unwrap_or found below)
unwrap_or-cond true entry below found = refl
unwrap_or-cond false entry below found = refl

unwrap_or-option_or : (newer older : Option (Option ViewEntry)) (below : Option ViewEntry)
    → unwrap_or (option_or newer older) below ≡ unwrap_or newer (unwrap_or older below)
unwrap_or-option_or None older below = refl
unwrap_or-option_or (Some entry) older below = refl

lookup-marks_of : (entries : Entries) (at : List ℕ)
    → lookup (is_at (slice_cmp nat_cmp at)) (marks_of entries) ≡ option_map entry_of (lookup (is_at (slice_cmp nat_cmp at)) entries)
lookup-marks_of [] at = refl
lookup-marks_of (mark ∷ entries) at =
    let same = is_at (slice_cmp nat_cmp at) mark.0 in
    ap (cond same (Some (entry_of mark.1))) (lookup-marks_of entries at)
    ∙ sym (option_map-cond same mark.1 (lookup (is_at (slice_cmp nat_cmp at)) entries))

-- ---- runs over each other

get-marked : (below : Standing) (at : List ℕ) (entry : Option ViewEntry) (other : List ℕ)
    → finite.get (marked below at entry) other ≡ cond (eq_by_cmp (slice_cmp nat_cmp) other at) entry (finite.get below other)
get-marked below at None other = finite.get-remove nat_list_cmp_total below at other
get-marked below at (Some entry) other = finite.get-insert nat_list_cmp_total below at entry other

-- what is there with one at an address
pub get-mark : (below : Standing) (at : List ℕ) (entry : Option ViewEntry) (q : List ℕ)
    → finite.get (marked below at entry) q ≡ cond (bytes_eq at q) entry (finite.get below q)
get-mark below at entry q = get-marked below at entry q ∙ ap (λ same. cond same entry (finite.get below q)) (sym (same_key at q))

get-marked_by : (below : Standing) (marks : Marks) (at : List ℕ)
    → finite.get (marked_by below marks) at ≡ unwrap_or (find (slice_cmp nat_cmp) at marks) (finite.get below at)
get-marked_by below [] at = refl
get-marked_by below (mark ∷ marks) at =
    let same = eq_by_cmp (slice_cmp nat_cmp) at mark.0 in
    get-marked (marked_by below marks) mark.0 mark.1 at
    ∙ ap (cond same mark.1) (get-marked_by below marks at)
    ∙ sym (unwrap_or-cond same mark.1 (finite.get below at) (find (slice_cmp nat_cmp) at marks))

-- what stands at an address, the first run that marks it decides
pub get-layers_in : (runs : List Run) (at : List ℕ) → finite.get (layers_in runs) at ≡ shown_in runs at
get-layers_in [] at = finite.get-empty (slice_cmp nat_cmp) at
get-layers_in (run ∷ runs) at =
    get-marked_by (layers_in runs) (marks_of run.marks.entries) at
    ∙ (λ i. unwrap_or ((find-lookup at (marks_of run.marks.entries) ∙ lookup-marks_of run.marks.entries at) i) (get-layers_in runs at i))

-- the same, where the runs are those of the map
pub shown_in-inside : (runs : List Run) (layers : Standing) → layers_in runs ≡ layers → (at : List ℕ) → shown_in runs at ≡ finite.get layers at
shown_in-inside runs layers is at = sym (get-layers_in runs at) ∙ ap (λ one. finite.get one at) is

-- a mark put into an empty run
pub mark_in-one : (empty run : Run) (at : List ℕ) (mark : Arc ViewMark Global) (entry : Option ViewEntry) → empty.marks.entries ≡ [] → entry_of mark ≡ entry
    → ((q : List ℕ) → get (slice_cmp nat_cmp) run.marks q ≡ cond (is_at (slice_cmp nat_cmp at) q) (Some mark) (get (slice_cmp nat_cmp) empty.marks q))
    → (q : List ℕ) → mark_in run q ≡ cond (bytes_eq at q) (Some entry) None
mark_in-one empty run at mark entry none is updates q =
    ap (option_map entry_of) (updates q)
    ∙ option_map-cond (is_at (slice_cmp nat_cmp at) q) mark (get (slice_cmp nat_cmp) empty.marks q)
    ∙ (λ i. cond (is_eq-slice_cmp at q i) (Some (is i)) (option_map entry_of (lookup (is_at (slice_cmp nat_cmp q)) (none i))))

-- a run of one mark in front
pub shown-one : (run : Run) (at : List ℕ) (entry below : Option ViewEntry) (other : List ℕ)
    → mark_in run other ≡ cond (bytes_eq at other) (Some entry) None
    → unwrap_or (mark_in run other) below ≡ cond (bytes_eq at other) entry below
shown-one run at entry below other is =
    ap (λ mark. unwrap_or mark below) is ∙ unwrap_or-cond (bytes_eq at other) entry below None

-- ---- marks put in turn

abbrev pub put_all : Run → Entries → List ℕ → Option (Option ViewEntry)
put_all run entries = update_all (eq_by_cmp (slice_cmp nat_cmp)) (mark_in run) (marks_of entries)

update_all-alike : (same : List ℕ → List ℕ → Bool) (marks : Marks) (before after : List ℕ → Option (Option ViewEntry)) (at : List ℕ) → before at ≡ after at
    → update_all same before marks at ≡ update_all same after marks at
update_all-alike same [] before after at is = is
update_all-alike same (mark ∷ marks) before after at is =
    update_all-alike same marks _ _ at (ap (cond (same mark.0 at) (Some mark.1)) is)

-- the first of them is put
pub put_all-more : (run more : Run) (at : List ℕ) (mark copy : Arc ViewMark Global) (entries rest : Entries) → entries ≡ (at, mark) ∷ rest → arc_value copy ≡ arc_value mark
    → ((q : List ℕ) → get (slice_cmp nat_cmp) more.marks q ≡ cond (is_at (slice_cmp nat_cmp at) q) (Some copy) (get (slice_cmp nat_cmp) run.marks q))
    → (q : List ℕ) → put_all more rest q ≡ put_all run entries q
put_all-more run more at mark copy entries rest is same updates q =
    let here = is_at (slice_cmp nat_cmp at) q in
    update_all-alike (eq_by_cmp (slice_cmp nat_cmp)) (marks_of rest) _ _ q
    (ap (option_map entry_of) (updates q)
    ∙ option_map-cond here copy (get (slice_cmp nat_cmp) run.marks q)
    ∙ ap (λ (one : ViewMark). cond here (Some one.entry) (mark_in run q)) same)
    ∙ ap (λ some. put_all run some q) (sym is)

keys_of-marks_of : (entries : Entries) → keys_of (marks_of entries) ≡ keys_of entries
keys_of-marks_of [] = refl
keys_of-marks_of (mark ∷ entries) = ap (λ keys. mark.0 ∷ keys) (keys_of-marks_of entries)

-- all of a run are put
pub put_all-run : (run newer : Run) → IsOrdered (slice_cmp nat_cmp) newer.marks
    → (q : List ℕ) → put_all run newer.marks.entries q ≡ option_or (mark_in newer q) (mark_in run q)
put_all-run run newer ordered q =
    let entries = newer.marks.entries in
    let distinct = subst (IsDistinct (eq_by_cmp (slice_cmp nat_cmp))) (sym (keys_of-marks_of entries)) (IsDistinct-from_sorted (slice_cmp nat_cmp) (keys_of entries) ordered) in
    update_all_distinct (eq_by_cmp_equiv nat_list_cmp_total) (eq_by_cmp (slice_cmp nat_cmp)) (λ x y. refl) (mark_in run) (marks_of entries) q distinct
    ∙ ap (λ mark. option_or mark (mark_in run q)) (lookup-marks_of entries q)

-- the first of marks is put
pub put-mark : (run more : Run) (at : List ℕ) (mark : Arc ViewMark Global) (entry : Option ViewEntry) (marks rest : Marks) → marks ≡ (at, entry) ∷ rest → entry_of mark ≡ entry
    → ((q : List ℕ) → get (slice_cmp nat_cmp) more.marks q ≡ cond (is_at (slice_cmp nat_cmp at) q) (Some mark) (get (slice_cmp nat_cmp) run.marks q))
    → (q : List ℕ) → update_all bytes_eq (mark_in more) rest q ≡ update_all bytes_eq (mark_in run) marks q
put-mark run more at mark entry marks rest are is updates q =
    update_all-alike bytes_eq rest _ _ q
    (ap (option_map entry_of) (updates q)
    ∙ option_map-cond (is_at (slice_cmp nat_cmp at) q) mark (get (slice_cmp nat_cmp) run.marks q)
    ∙ (λ i. cond (is_eq-slice_cmp at q i) (Some (is i)) (mark_in run q)))
    ∙ ap (λ some. update_all bytes_eq (mark_in run) some q) (sym are)

-- marks put into an empty run
pub put-first : (empty : Run) (marks : Marks) → empty.marks.entries ≡ [] → (q : List ℕ) → update_all bytes_eq (mark_in empty) marks q ≡ last_of marks q
put-first empty marks none q =
    update_all-alike bytes_eq marks _ _ q (ap (λ entries. option_map entry_of (lookup (is_at (slice_cmp nat_cmp q)) entries)) none)

unwrap_or-update : (same : Bool) (entry below : Option ViewEntry) (found : Option (Option ViewEntry))
    → unwrap_or (cond same (Some entry) found) below ≡ unwrap_or (cond same (Some entry) None) (unwrap_or found below)
unwrap_or-update true entry below found = refl
unwrap_or-update false entry below found = refl

-- what was there before marks counts where none of them is
last_of-behind : (marks : Marks) (before : List ℕ → Option (Option ViewEntry)) (at : List ℕ) (below : Option ViewEntry)
    → unwrap_or (update_all bytes_eq before marks at) below ≡ unwrap_or (last_of marks at) (unwrap_or (before at) below)
last_of-behind [] before at below = refl
last_of-behind (mark ∷ marks) before at below =
    let same = bytes_eq mark.0 at in
    last_of-behind marks _ at below
    ∙ ap (unwrap_or (last_of marks at)) (unwrap_or-update same mark.1 below (before at))
    ∙ sym (last_of-behind marks _ at (unwrap_or (before at) below))

-- with the first of marks put, the others
pub put-others : (below : Standing) (at : List ℕ) (entry : Option ViewEntry) (marks : Marks) (q : List ℕ)
    → unwrap_or (last_of ((at, entry) ∷ marks) q) (finite.get below q) ≡ unwrap_or (last_of marks q) (finite.get (marked below at entry) q)
put-others below at entry marks q =
    last_of-behind marks _ q (finite.get below q)
    ∙ ap (unwrap_or (last_of marks q)) (unwrap_or-cond (bytes_eq at q) entry (finite.get below q) None ∙ sym (get-mark below at entry q))

-- ---- the next of runs

module _ (runs : List (Arc Run Global)) (i : ℕ) (run : Arc Run Global) (seen : Run) (at : List ℕ)
    (inside : i < length runs) (here : run ≡ get_or runs i run) (shows : seen ≡ arc_value run) where
  shown_in-next : (found : Option (Arc ViewMark Global)) → found ≡ get (slice_cmp nat_cmp) seen.marks at
      → shown_in (runs_of (drop i runs)) at ≡ unwrap_or (option_map entry_of found) (shown_in (runs_of (drop (i + 1) runs)) at)
  shown_in-next found is =
      let rest = shown_in (runs_of (drop (i + 1) runs)) at in
      ap (λ some. shown_in (runs_of some) at) (drop_more runs i run inside ∙ ap (λ one. one ∷ drop (i + 1) runs) (sym here))
      ∙ ap (λ one. unwrap_or (mark_in one at) rest) (sym shows)
      ∙ ap (λ one. unwrap_or (option_map entry_of one) rest) (sym is)

  -- it marks the address
  pub shown_in-here : (mark : Arc ViewMark Global) → Some mark ≡ get (slice_cmp nat_cmp) seen.marks at → shown_in (runs_of (drop i runs)) at ≡ entry_of mark
  shown_in-here mark is = shown_in-next (Some mark) is

  -- it does not
  pub shown_in-behind : None ≡ get (slice_cmp nat_cmp) seen.marks at → shown_in (runs_of (drop i runs)) at ≡ shown_in (runs_of (drop (i + 1) runs)) at
  shown_in-behind is = shown_in-next None is

-- a run merged with the one behind it
pub shown_in-merged : (run older both : Run) (runs : List Run) (at : List ℕ) → mark_in both at ≡ option_or (mark_in run at) (mark_in older at)
    → unwrap_or (mark_in both at) (shown_in runs at) ≡ unwrap_or (mark_in run at) (shown_in (older ∷ runs) at)
shown_in-merged run older both runs at is =
    ap (λ mark. unwrap_or mark (shown_in runs at)) is ∙ unwrap_or-option_or (mark_in run at) (mark_in older at) (shown_in runs at)
