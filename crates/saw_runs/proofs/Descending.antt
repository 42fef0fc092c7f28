-- Down from a root to a prefix, and to what lies below it.
use Rattle.std.proofs.Common.{◌≡◌, ℕ, zero, suc, ◌+◌, ◌-◌, ◌<◌, ◌≤◌, true, false, cond, List, [], ◌∷◌, ◌++◌, length, map, take, drop, get_or, refl, sym, ap, ◌∙◌, subst, arith, append_assoc, nat_eq, Option, Some, None, inl, inr}
use Rattle.std.specs.Prelude.{◌&&◌}
use Rattle.std.specs.Option.{option_map}
use Rattle.std.specs.List.{AllByRecursion, flat_map}
use Rattle.std.specs.List.Sorted.{IsStrictlySortedBy}
use Rattle.std.specs.Ordering.{nat_cmp}
use Rattle.std.specs.declared.cmp.Ordering.TheVariants.{Less}
use Rattle.std.proofs.lemmas.Bool.{true≢false, cases_eq, and_parts, eqb-true, eq-eqb, ne_eqb, false_from_ne_true}
use Rattle.std.proofs.lemmas.List.{append-nil, length-append, take_more, take_all, take-append-drop, length-take-le}
use Rattle.std.proofs.lemmas.List.Elements.{filter-append}
use Rattle.std.proofs.lemmas.List.Folds.{flat_map-map}
use Rattle.saw_address.specs.Maps.{Entries}
use Rattle.saw_address.specs.Prefixes.{covers}
use Rattle.saw_context.proofs.Each.{all_append, all_weaker}
use Rattle.saw_node.specs.Nodes.{pair_of}
use Rattle.saw_node.specs.declared.node.Child.{Child}
use Rattle.saw_runs.specs.Below.{LeadsTo, Narrows, covered_by, entries_below, read_by, read_from, read_under}
use Rattle.saw_runs.specs.Entries.{Entry}
use Rattle.saw_runs.specs.Listing.{entry_at, opened_by, read_below}
use Rattle.saw_runs.specs.Lowers.{children_read}
use Rattle.saw_runs.specs.Readings.{entry_value}
use Rattle.saw_runs.specs.Tables.{at_byte}
use Rattle.saw_runs.specs.declared.listing.Place.{Place}
use Rattle.saw_runs.proofs.ByBytes.{all_each, filter_alike, filter_drops, filter_keeps, filter_twice}
use Rattle.saw_runs.proofs.InOrder.{less_is}
use Rattle.saw_runs.proofs.Local.{covers-itself, covers-shorter, same_tests}

-- ---- what is read lies below its place

all_flat : {X A : Type 0} (P : A → Type 0) (f : X → List A) → ((x : X) → AllByRecursion P (f x)) → (xs : List X) → AllByRecursion P (flat_map f xs)
all_flat P f each [] = tt
all_flat P f each (x ∷ xs) = all_append P (f x) (flat_map f xs) (each x) (all_flat P f each xs)

abbrev pub IsUnder : List ℕ → List ℕ × List ℕ → Type 0
IsUnder place e = covers place e.0 ≡ true

under_shorter : (place rest : List ℕ) (es : Entries) → AllByRecursion (IsUnder (place ++ rest)) es → AllByRecursion (IsUnder place) es
under_shorter place rest es all = all_weaker (IsUnder (place ++ rest)) (IsUnder place) (λ e under. covers-shorter place rest e.0 under) es all

module _ (read : List ℕ → Option Entry) where
  pub read_under_place : (levels : ℕ) (place path bottom : List ℕ) → AllByRecursion (IsUnder place) (read_below read levels place path bottom)
  unfolding read_below
  read_under_place zero place [] bottom = value (entry_value (read bottom))
    where
      value : (o : Option (List ℕ)) → AllByRecursion (IsUnder place) (entry_at place o)
      value None = tt
      value (Some v) = (covers-itself place, tt)
  read_under_place zero place (c ∷ path) bottom = tt
  read_under_place (suc levels) place [] bottom =
      all_flat (IsUnder place) (λ child. read_by read levels (place ++ child.0 ∷ []) (Some (opened_by child.1 (read child.1))))
      (λ child. under_shorter place (child.0 ∷ []) _
      (read_under_place levels (place ++ child.0 ∷ []) (opened_by child.1 (read child.1)).0 (opened_by child.1 (read child.1)).1))
      (children_read (read bottom))
  read_under_place (suc levels) place (c ∷ path) bottom = under_shorter place (c ∷ []) _ (read_under_place levels (place ++ c ∷ []) path bottom)

-- ---- down a byte

-- what goes on behind a place with one byte goes on with no other
one_byte : (place : List ℕ) (b c : ℕ) (q : List ℕ) → covers (place ++ b ∷ []) q ≡ true → covers (place ++ c ∷ []) q ≡ true → b ≡ c
one_byte [] b c [] one two = absurd (true≢false (sym one))
one_byte [] b c (x ∷ q) one two =
    eqb-true b x (and_parts (nat_eq b x) (covers [] q) one).0 ∙ sym (eqb-true c x (and_parts (nat_eq c x) (covers [] q) two).0)
one_byte (p ∷ place) b c [] one two = absurd (true≢false (sym one))
one_byte (p ∷ place) b c (x ∷ q) one two =
    one_byte place b c q (and_parts (nat_eq p x) (covers (place ++ b ∷ []) q) one).1 (and_parts (nat_eq p x) (covers (place ++ c ∷ []) q) two).1

none_by_other : (place : List ℕ) (b c : ℕ) (es : Entries) → (c ≡ b → ⊥) → AllByRecursion (IsUnder (place ++ c ∷ [])) es → covered_by (place ++ b ∷ []) es ≡ []
none_by_other place b c es other all =
    filter_drops (λ e. covers (place ++ b ∷ []) e.0) es (all_weaker (IsUnder (place ++ c ∷ [])) (λ e. covers (place ++ b ∷ []) e.0 ≡ false)
    (λ e under. false_from_ne_true _ (λ met. other (one_byte place c b e.0 under met))) es all)

-- what is below the child at a byte
abbrev of_child : ℕ → (ℕ × List ℕ → Entries) → Option (List ℕ) → Entries
of_child b f None = []
of_child b f (Some h) = f (b, h)

module _ (place : List ℕ) (b : ℕ) (f : ℕ × List ℕ → Entries) (under : (child : ℕ × List ℕ) → AllByRecursion (IsUnder (place ++ child.0 ∷ [])) (f child)) where
  none_of_others : (cs : List (ℕ × List ℕ)) → AllByRecursion (λ c. b ≡ c.0 → ⊥) cs → covered_by (place ++ b ∷ []) (flat_map f cs) ≡ []
  none_of_others [] others = refl
  none_of_others (c ∷ cs) others =
      filter-append (λ e. covers (place ++ b ∷ []) e.0) (f c) (flat_map f cs)
      ∙ ap (λ xs. xs ++ covered_by (place ++ b ∷ []) (flat_map f cs)) (none_by_other place b c.0 (f c) (λ same. others.0 (sym same)) (under c))
      ∙ none_of_others cs others.1

  by_child : (cs : List (ℕ × List ℕ)) → IsStrictlySortedBy nat_cmp (map (λ c. c.0) cs) → covered_by (place ++ b ∷ []) (flat_map f cs) ≡ of_child b f (at_byte b cs)
  unfolding IsStrictlySortedBy
  by_child [] rising = refl
  by_child (c ∷ cs) rising =
      filter-append (λ e. covers (place ++ b ∷ []) e.0) (f c) (flat_map f cs)
      ∙ elim (cases_eq c.0 b) [
        | inl same ↦
            let here : f c ≡ f (b, c.1) = ap (λ x. f (x, c.1)) same in
            let all = subst (λ x. AllByRecursion (IsUnder (place ++ x ∷ [])) (f c)) same (under c) in
            ap (λ xs. xs ++ covered_by (place ++ b ∷ []) (flat_map f cs)) (filter_keeps (λ e. covers (place ++ b ∷ []) e.0) (f c) all ∙ here)
            ∙ ap (λ xs. f (b, c.1) ++ xs) (none_of_others cs (above c.0 same cs rising.0)) ∙ append-nil (f (b, c.1))
            ∙ sym (ap (λ t. of_child b f (cond t (Some c.1) (at_byte b cs))) (eq-eqb c.0 b same))
        | inr other ↦
            ap (λ xs. xs ++ covered_by (place ++ b ∷ []) (flat_map f cs)) (none_by_other place b c.0 (f c) other (under c))
            ∙ by_child cs rising.1 ∙ sym (ap (λ t. of_child b f (cond t (Some c.1) (at_byte b cs))) (ne_eqb c.0 b other))
      ]
    where
      above : (x : ℕ) → x ≡ b → (ds : List (ℕ × List ℕ)) → AllByRecursion (λ y. nat_cmp x y ≡ Less) (map (λ d. d.0) ds) → AllByRecursion (λ d. b ≡ d.0 → ⊥) ds
      above x same [] all = tt
      above x same (d ∷ ds) all = (λ e. let lt = less_is x d.0 all.0 in omega (arith, same, e, lt), above x same ds all.1)

pairs_rise : (cs : List Child) → map (λ c. c.0) (map pair_of cs) ≡ map (λ child. child.byte) cs
pairs_rise [] = refl
pairs_rise (c ∷ cs) = ap (λ bs. c.byte ∷ bs) (pairs_rise cs)

module _ (read : List ℕ → Option Entry) (bottom : List ℕ) (b : ℕ) where
  -- below a node the child at the byte has all
  pub narrows_child : (children : List Child) (o : Option (List ℕ)) → map pair_of children ≡ children_read (read bottom)
      → IsStrictlySortedBy nat_cmp (map (λ child. child.byte) children) → o ≡ at_byte b (map pair_of children)
      → Narrows read [] bottom b (option_map (λ h. opened_by h (read h)) o)
  unfolding read_below
  narrows_child children o are rising is levels place =
      let f : ℕ × List ℕ → Entries = λ child. read_by read levels (place ++ child.0 ∷ []) (Some (opened_by child.1 (read child.1))) in
      ap (λ cs. covered_by (place ++ b ∷ []) (flat_map f cs)) (sym are)
      ∙ by_child place b f (λ child. read_under_place read levels (place ++ child.0 ∷ []) (opened_by child.1 (read child.1)).0 (opened_by child.1 (read child.1)).1)
      (map pair_of children) (subst (IsStrictlySortedBy nat_cmp) (sym (pairs_rise children)) rising)
      ∙ ap (of_child b f) (sym is) ∙ elim o as (λ v. of_child b f v ≡ read_by read levels (place ++ b ∷ []) (option_map (λ h. opened_by h (read h)) v)) [
        | None ↦ refl
        | Some h ↦ refl
      ]

  -- a run goes on with its first byte alone
  pub narrows_other : (c : ℕ) (path : List ℕ) → (c ≡ b → ⊥) → Narrows read (c ∷ path) bottom b None
  unfolding read_below
  narrows_other c path other levels place = none_by_other place b c _ other (read_under_place read levels (place ++ c ∷ []) path bottom)

  pub narrows_first : (c : ℕ) (path : List ℕ) → c ≡ b → Narrows read (c ∷ path) bottom b (Some (path, bottom))
  unfolding read_below
  narrows_first c path same levels place =
      filter_keeps (λ e. covers (place ++ b ∷ []) e.0) (read_below read levels (place ++ c ∷ []) path bottom)
      (subst (λ x. AllByRecursion (IsUnder (place ++ x ∷ [])) (read_below read levels (place ++ c ∷ []) path bottom)) same
      (read_under_place read levels (place ++ c ∷ []) path bottom))
      ∙ ap (λ x. read_below read levels (place ++ x ∷ []) path bottom) same

-- ---- down a run

module _ (read : List ℕ → Option Entry) (bottom : List ℕ) where
  -- what a run leads to lies below its end
  pub run_end : (path : List ℕ) (levels left : ℕ) (place : List ℕ) → left + length path ≡ levels
      → read_below read levels place path bottom ≡ read_below read left (place ++ path) [] bottom
  unfolding read_below
  run_end [] levels left place deep =
      ap (λ n. read_below read n place [] bottom) (omega (arith, deep)) ∙ ap (λ p. read_below read left p [] bottom) (sym (append-nil place))
  run_end (c ∷ path) zero left place deep = absurd (omega (arith, deep))
  run_end (c ∷ path) (suc levels) left place deep =
      run_end path levels left (place ++ c ∷ []) (omega (arith, deep)) ∙ ap (λ p. read_below read left p [] bottom) (append_assoc place (c ∷ []) path)

  -- one that is too long leads to nothing
  pub run_long : (path : List ℕ) (levels : ℕ) (place : List ℕ) → levels < length path → read_below read levels place path bottom ≡ []
  unfolding read_below
  run_long [] levels place long = absurd (omega (arith, long))
  run_long (c ∷ path) zero place long = refl
  run_long (c ∷ path) (suc levels) place long = run_long path levels (place ++ c ∷ []) (omega (arith, long))

-- ---- below a node

-- how far a node is above the values; less where there is none
abbrev pub levels_left : Option Place → ℕ
levels_left None = 0
levels_left (Some at) = 36 - at.depth

-- the entries below a node's children
below_children : (read : List ℕ → Option Entry) (levels k : ℕ) (place hash : List ℕ) (children : List Child) → levels ≡ suc k
    → map pair_of children ≡ children_read (read hash) → flat_map (entries_below read k place) children ≡ read_below read levels place [] hash
unfolding read_below
below_children read levels k place hash children one are =
    sym (ap (λ n. read_below read n place [] hash) one
    ∙ ap (flat_map (λ child. read_by read k (place ++ child.0 ∷ []) (Some (opened_by child.1 (read child.1))))) (sym are)
    ∙ flat_map-map (λ child. read_by read k (place ++ child.0 ∷ []) (Some (opened_by child.1 (read child.1)))) pair_of children)

-- all children of a node are gathered
pub all_gathered : (read : List ℕ → Option Entry) (o : Option Place) (at : Place) (children : List Child) (i : ℕ) (old now : Entries) → o ≡ Some at → at.depth < 35
    → map pair_of children ≡ children_read (read at.hash) → length children ≤ i
    → now ≡ old ++ flat_map (entries_below read (35 - (at.depth + 1)) (take at.depth at.bytes)) (take i children) → now ≡ old ++ read_under read o
all_gathered read o at children i old now is above are all gathered =
    gathered
    ∙ ap (λ cs. old ++ flat_map (entries_below read (35 - (at.depth + 1)) (take at.depth at.bytes)) cs) (take_all i children all)
    ∙ ap (λ es. old ++ es) (below_children read (35 - at.depth) (35 - (at.depth + 1)) (take at.depth at.bytes) at.hash children (omega (arith, above)) are)
    ∙ ap (λ p. old ++ read_under read p) (sym is)

-- a leaf has one entry, or none
at_leaf : (read : List ℕ → Option Entry) (levels : ℕ) (place hash : List ℕ) → levels ≡ 0 → read_below read levels place [] hash ≡ entry_at place (entry_value (read hash))
unfolding read_below
at_leaf read levels place hash low = ap (λ n. read_below read n place [] hash) low

pub leaf_entry : (read : List ℕ → Option Entry) (o : Option Place) (at : Place) → o ≡ Some at → at.depth ≡ 35 → length at.bytes ≡ 35
    → entry_at at.bytes (entry_value (read at.hash)) ≡ read_under read o
leaf_entry read o at is low whole =
    ap (λ p. entry_at p (entry_value (read at.hash))) (sym (take_all at.depth at.bytes (omega (arith, low, whole))))
    ∙ sym (at_leaf read (35 - at.depth) (take at.depth at.bytes) at.hash (omega (arith, low))) ∙ ap (read_under read) (sym is)

-- a list whose length is not none
pub not_empty : (xs : List ℕ) → nat_eq (length xs) 0 ≡ false → 0 < length xs
not_empty [] h = absurd (true≢false h)
not_empty (x ∷ xs) h = omega arith

-- ---- down a prefix

covered_twice : (place rest : List ℕ) (es : Entries) → covered_by (place ++ rest) (covered_by place es) ≡ covered_by (place ++ rest) es
covered_twice place rest es =
    filter_twice (λ e. covers (place ++ rest) e.0) (λ e. covers place e.0) es
    ∙ filter_alike _ _ es (all_each _ (λ e. same_tests _ _ (λ h. (and_parts (covers place e.0) _ h).1) (λ h.
    ap (λ t. t && covers (place ++ rest) e.0) (covers-shorter place rest e.0 h) ∙ h)) es)

module _ (read : List ℕ → Option Entry) (root : List ℕ) where
  pub leads_first : LeadsTo read root [] (Some (opened_by root (read root)))
  leads_first = filter_keeps (λ e. covers [] e.0) (read_from read root) (all_each (λ e. true ≡ true) (λ e. refl) (read_from read root))

  leads_next : (place path bottom : List ℕ) (b : ℕ) (below : Option (List ℕ × List ℕ)) → length place < 35 → LeadsTo read root place (Some (path, bottom))
      → Narrows read path bottom b below → LeadsTo read root (place ++ b ∷ []) below
  leads_next place path bottom b below short leads narrows =
      let one : 35 - length place ≡ suc (35 - length (place ++ b ∷ [])) = omega (arith, short, length-append place (b ∷ [])) in
      sym (covered_twice place (b ∷ []) (read_from read root)) ∙ ap (covered_by (place ++ b ∷ [])) leads
      ∙ ap (λ n. covered_by (place ++ b ∷ []) (read_below read n place path bottom)) one ∙ narrows (35 - length (place ++ b ∷ [])) place

  -- one byte more of a prefix
  pub leads_more : (prefix : List ℕ) (i : ℕ) (path bottom : List ℕ) (b : ℕ) (below : Option (List ℕ × List ℕ)) → length prefix ≤ 35 → i < length prefix
      → b ≡ get_or prefix i 0 → LeadsTo read root (take i prefix) (Some (path, bottom)) → Narrows read path bottom b below
      → LeadsTo read root (take (i + 1) prefix) below
  leads_more prefix i path bottom b below short within is leads narrows =
      subst (λ p. LeadsTo read root p below) (sym (take_more prefix i 0 within ∙ ap (λ x. take i prefix ++ x ∷ []) (sym is)))
      (leads_next (take i prefix) path bottom b below (omega (arith, length-take-le i prefix (omega (arith, within)), short, within)) leads narrows)

  -- below less nothing lies, so neither below the whole
  pub leads_nowhere : (prefix : List ℕ) (i : ℕ) → LeadsTo read root (take i prefix) None → LeadsTo read root prefix None
  leads_nowhere prefix i none =
      subst (λ p. LeadsTo read root p None) (take-append-drop i prefix)
      (sym (covered_twice (take i prefix) (drop i prefix) (read_from read root)) ∙ ap (covered_by (take i prefix ++ drop i prefix)) none)
