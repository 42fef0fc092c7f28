-- Changes without the idle ones lead from the root's map to the same one.
use Rattle.std.proofs.Common.{◌≡◌, ℕ, suc, ◌+◌, ◌<◌, false, cond, List, [], ◌∷◌, ◌++◌, length, map, drop, get_or, bytes_eq, sym, ap, ◌∙◌, subst, arith, append_assoc, Option, inl, inr}
use Rattle.std.specs.List.{AllByRecursion}
use Rattle.std.specs.List.Sorted.{IsStrictlySortedBy}
use Rattle.std.specs.Ordering.{nat_cmp}
use Rattle.std.specs.Cmp.Lexicographic.{slice_cmp, nat_list_cmp_total}
use Rattle.std.specs.declared.cmp.Ordering.TheVariants.{Less, Equal}
use Rattle.std.proofs.Math.Seq.{drop-cons}
use Rattle.std.proofs.lemmas.Bool.{cases_Bool, false_from_ne_true}
use Rattle.std.proofs.lemmas.Cmp.{tied_itself}
use Rattle.std.proofs.lemmas.Slice.Eq.{bytes_eq-Decides}
use Rattle.saw_address.specs.Maps.{StateMap, changed_at, value_at}
use Rattle.saw_address.proofs.Finite.{same_values, value_at-changed_at}
use Rattle.saw_context.specs.Changed.{AreRising}
use Rattle.saw_context.specs.Outcome.{map_after}
use Rattle.saw_context.proofs.OnTop.{map_after-append, value_at_apart}
use Rattle.saw_messages.specs.declared.outcome.Change.{Change}
use Rattle.saw_runs.specs.Entries.{Entry}
use Rattle.saw_runs.specs.Changes.{ChangesRoot, IsRootWith}
use Rattle.saw_runs.specs.Idle.{IsIdle, StandsFor}
use Rattle.saw_runs.specs.declared.pieces.NewPiece.{NewPiece}

-- ---- a change in the middle

all_without : (P : Change → Type 0) (left : List Change) (c : Change) (rest : List Change) → AllByRecursion P (left ++ c ∷ rest) → AllByRecursion P (left ++ rest)
all_without P [] c rest h = h.1
all_without P (x ∷ left) c rest h = (h.0, all_without P left c rest h.1)

keys_without : (P : List ℕ → Type 0) (left : List Change) (c : Change) (rest : List Change)
    → AllByRecursion P (map (λ change. change.address) (left ++ c ∷ rest)) → AllByRecursion P (map (λ change. change.address) (left ++ rest))
keys_without P [] c rest h = h.1
keys_without P (x ∷ left) c rest h = (h.0, keys_without P left c rest h.1)

key_among : (P : List ℕ → Type 0) (left : List Change) (c : Change) (rest : List Change)
    → AllByRecursion P (map (λ change. change.address) (left ++ c ∷ rest)) → P c.address
key_among P [] c rest h = h.0
key_among P (x ∷ left) c rest h = key_among P left c rest h.1

rising_without : (left : List Change) (c : Change) (rest : List Change) → AreRising (left ++ c ∷ rest) → AreRising (left ++ rest)
unfolding IsStrictlySortedBy
rising_without [] c rest h = h.1
rising_without (x ∷ left) c rest h = (keys_without _ left c rest h.0, rising_without left c rest h.1)

pub not_less : Equal ≡ Less → ⊥
not_less e = cc

pub less_apart : (x y : List ℕ) → slice_cmp nat_cmp x y ≡ Less → bytes_eq x y ≡ false
less_apart x y less = false_from_ne_true (bytes_eq x y) (λ same.
    not_less (sym (tied_itself nat_list_cmp_total x) ∙ ap (slice_cmp nat_cmp x) ((bytes_eq-Decides x y).0 same) ∙ less))

-- rising changes before one are at other addresses
apart_before : (left : List Change) (c : Change) (rest : List Change) → AreRising (left ++ c ∷ rest)
    → AllByRecursion (λ change. bytes_eq change.address c.address ≡ false) left
unfolding IsStrictlySortedBy
apart_before [] c rest h = tt
apart_before (x ∷ left) c rest h =
    (less_apart x.address c.address (key_among (λ y. slice_cmp nat_cmp x.address y ≡ Less) left c rest h.0), apart_before left c rest h.1)

-- ---- what a map has after changes

changed_at-same : (m : StateMap) (address : List ℕ) (value : Option (List ℕ)) → value_at m address ≡ value → changed_at m address value ≡ m
changed_at-same m address value has = same_values (changed_at m address value) m (λ at.
    value_at-changed_at m address value at
    ∙ elim (cases_Bool (bytes_eq address at)) [
      | inl same ↦ ap (λ t. cond t value (value_at m at)) same ∙ sym has ∙ ap (value_at m) ((bytes_eq-Decides address at).0 same)
      | inr apart ↦ ap (λ t. cond t value (value_at m at)) apart
    ])

map_after-without : (m : StateMap) (left : List Change) (c : Change) (rest : List Change) → AreRising (left ++ c ∷ rest) → value_at m c.address ≡ c.value
    → map_after m (left ++ rest) ≡ map_after m (left ++ c ∷ rest)
map_after-without m left c rest rising has =
    let before : value_at (map_after m left) c.address ≡ c.value = value_at_apart m left c.address (apart_before left c rest rising) ∙ has in
    map_after-append m left rest ∙ ap (λ n. map_after n rest) (sym (changed_at-same (map_after m left) c.address c.value before))
    ∙ sym (map_after-append m left (c ∷ rest))

-- ---- one change after another

module _ (read : List ℕ → Option Entry) (root : List ℕ) where
  without : (left : List Change) (c : Change) (rest all : List Change) → IsIdle read root c → StandsFor read root (left ++ c ∷ rest) all
      → StandsFor read root (left ++ rest) all
  without left c rest all idle stands = record {
    rising = rising_without left c rest stands.rising;
    are = λ are. all_without _ left c rest (stands.are are);
    same = λ hash m is. map_after-without m left c rest stands.rising (idle hash m is) ∙ stands.same hash m is;
  }

  module _ (left changes all : List Change) (k : ℕ) (here : Change) (is : here ≡ get_or changes k here) (lt : k < length changes)
      (stands : StandsFor read root (left ++ drop k changes) all) where
    whole : StandsFor read root (left ++ here ∷ drop (k + 1) changes) all
    whole =
        let next : suc k ≡ k + 1 = omega arith in
        subst (λ xs. StandsFor read root (left ++ xs) all)
        (drop-cons changes k here lt ∙ ap (λ n. get_or changes k here ∷ drop n changes) next ∙ ap (λ x. x ∷ drop (k + 1) changes) (sym is)) stands

    -- the next one is idle
    pub one_skipped : IsIdle read root here → StandsFor read root (left ++ drop (k + 1) changes) all
    one_skipped idle = without left here (drop (k + 1) changes) all idle whole

    -- it is taken
    pub one_taken : (after : List Change) → after ≡ left ++ here ∷ [] → StandsFor read root (after ++ drop (k + 1) changes) all
    one_taken after is_after = subst (λ xs. StandsFor read root xs all)
        (sym (append_assoc left (here ∷ []) (drop (k + 1) changes)) ∙ ap (λ xs. xs ++ drop (k + 1) changes) (sym is_after)) whole

  -- the root after those that are left is the root after all
  pub root_stands : (hash : List ℕ → List ℕ) (empty : List ℕ) (left changes : List Change) (answer : List ℕ) (old new : List NewPiece)
      → StandsFor read root left changes → ChangesRoot hash read empty root left answer old new → ChangesRoot hash read empty root changes answer old new
  root_stands hash empty left changes answer old new stands changed = record {
    news = changed.news;
    grown = changed.grown;
    named = changed.named;
    told = λ m is_root is_empty are. subst (λ n. IsRootWith hash read n answer changed.news) (stands.same hash m is_root)
        (changed.told m is_root is_empty (stands.are are));
  }
