-- New nodes tested one after another.
use Rattle.std.proofs.Common.{◌≡◌, ◌⊎◌, ℕ, zero, suc, ◌+◌, ◌<◌, true, cond, List, [], ◌∷◌, length, get_or, refl, sym, ap, ◌∙◌, subst, Option, Some, None, inl, inr, arith}
use Rattle.std.specs.Prelude.{IfSome}
use Rattle.std.specs.Map.{lookup}
use Rattle.std.specs.Str.{bytes_eq}
use Rattle.std.proofs.lemmas.Bool.{cases_Bool}
use Rattle.std.proofs.lemmas.List.{get_or_default}
use Rattle.std.proofs.lemmas.Slice.Eq.{bytes_eq-Decides}
use Rattle.saw_node.specs.Nodes.{Shape, encoding_of, shape_of}
use Rattle.saw_store.specs.News.{IsIn, AreNamed, AreUnderTheirs, AreClear, IsClashOf}
use Rattle.saw_store.specs.Places.{AreNoted, IsFreeAt, IsToldApart}
use Rattle.saw_store.specs.Stores.{Nodes, kept_at, IsFree}
use Rattle.saw_store.specs.declared.fault.StoreFault.{StoreFault}
use Rattle.saw_store.specs.declared.fault.StoreFault.TheVariants.{Collision, OutOfMemory}
use Rattle.saw_store.specs.declared.new_node.NewNode.{NewNode}

-- ---- nodes at places

in_at : (news : List NewNode) (at : ℕ) (other : NewNode) → at < length news → IsIn news (shape_of (get_or news at other).node)
in_at [] at other below = absurd (omega arith)
in_at (new ∷ news) zero other below = inl refl
in_at (new ∷ news) (suc at) other below = inr (in_at news at other (omega arith))

named_at : (hash : List ℕ → List ℕ) (news : List NewNode) (at : ℕ) (other : NewNode) → AreNamed hash news → at < length news
    → (get_or news at other).hash ≡ hash (encoding_of (shape_of (get_or news at other).node))
named_at hash [] at other named below = absurd (omega arith)
named_at hash (new ∷ news) zero other named below = named.0
named_at hash (new ∷ news) (suc at) other named below = named_at hash news at other named.1 (omega arith)

named_here : (hash : List ℕ → List ℕ) (news : List NewNode) (at : ℕ) (new : NewNode) → new ≡ get_or news at new → at < length news → AreNamed hash news
    → new.hash ≡ hash (encoding_of (shape_of new.node))
named_here hash news at new is below named =
    subst (λ (n : NewNode). n.hash ≡ hash (encoding_of (shape_of n.node))) (sym is) (named_at hash news at new named below)

-- where a new node stands
record Stands (news : List NewNode) (shape : Shape) : Type 0 where
  at : ℕ
  below : at < length news
  other : NewNode
  is : shape_of (get_or news at other).node ≡ shape

stands : (news : List NewNode) (shape : Shape) → IsIn news shape → Stands news shape
stands [] shape among = absurd among
stands (new ∷ news) shape among = elim among [
  | inl same ↦ record { at = 0; below = omega arith; other = new; is = same }
  | inr later ↦ let s = stands news shape later in record { at = suc s.at; below = omega (arith, s.below); other = s.other; is = s.is }
]

-- ---- places that are noted

pub noted_none : (news : List NewNode) (places : List (List ℕ × ℕ)) → places ≡ [] → AreNoted news 0 places
noted_none news places none = record {
  here = λ other hash place found. absurd (no_some (sym (ap (lookup (bytes_eq hash)) none) ∙ found));
  same = λ other at below. absurd (omega arith);
}
  where
    no_some : {place : ℕ} → None ≡ Some place → ⊥
    no_some e = cc

itself : (h : List ℕ) → bytes_eq h h ≡ true
itself h = (bytes_eq-Decides h h).1 refl

some_once : {x y : ℕ} → Some x ≡ Some y → x ≡ y
some_once e = cc

-- one place more
pub noted_more : (news : List NewNode) (at : ℕ) (new : NewNode) (old after : List (List ℕ × ℕ)) → new ≡ get_or news at new → at < length news
    → ((q : List ℕ) → lookup (bytes_eq q) after ≡ cond (bytes_eq new.hash q) (Some at) (lookup (bytes_eq q) old))
    → ((place : ℕ) → lookup (bytes_eq new.hash) old ≡ Some place → shape_of (get_or news place new).node ≡ shape_of new.node)
    → AreNoted news at old → AreNoted news (at + 1) after
noted_more news at new old after is below added agrees noted =
    let here_at : (other : NewNode) → get_or news at other ≡ new = λ other. get_or_default news at other new below ∙ sym is in
    record {
      here = λ other h place found. elim (cases_Bool (bytes_eq new.hash h)) [
        | inl tied ↦
            let e : at ≡ place = some_once (ap (λ b. cond b (Some at) (lookup (bytes_eq h) old)) (sym tied) ∙ sym (added h) ∙ found) in
            (omega (arith, e), ap (λ p. (get_or news p other).hash) (sym e) ∙ ap (λ (n : NewNode). n.hash) (here_at other) ∙ (bytes_eq-Decides new.hash h).0 tied)
        | inr apart ↦
            let before = noted.here other h place (ap (λ b. cond b (Some at) (lookup (bytes_eq h) old)) (sym apart) ∙ sym (added h) ∙ found) in
            (omega (arith, before.0), before.1)
      ];
      same = λ other i under. elim (last_or i at under) [
        | inl last ↦
            let e : get_or news i other ≡ new = ap (λ p. get_or news p other) last ∙ here_at other in (
              at,
              ap (λ (n : NewNode). lookup (bytes_eq n.hash) after) e ∙ added new.hash ∙ ap (λ b. cond b (Some at) (lookup (bytes_eq new.hash) old)) (itself new.hash),
              ap (λ (n : NewNode). shape_of n.node) (here_at other ∙ sym e),
            )
        | inr earlier ↦
            let before = noted.same other i earlier in
            let h = (get_or news i other).hash in
            elim (cases_Bool (bytes_eq new.hash h)) [
              | inl tied ↦
                  let same_hash : new.hash ≡ h = (bytes_eq-Decides new.hash h).0 tied in
                  let found : lookup (bytes_eq new.hash) old ≡ Some before.0 = ap (λ q. lookup (bytes_eq q) old) same_hash ∙ before.1 in
                  let under_at : before.0 < at = (noted.here other h before.0 before.1).0 in
                  let within : before.0 < length news = omega (arith, under_at, below) in (
                    at,
                    added h ∙ ap (λ b. cond b (Some at) (lookup (bytes_eq h) old)) tied,
                    ap (λ (n : NewNode). shape_of n.node) (here_at other) ∙ sym (agrees before.0 found)
                        ∙ ap (λ (n : NewNode). shape_of n.node) (get_or_default news before.0 new other within) ∙ before.2,
                  )
              | inr apart ↦ (before.0, added h ∙ ap (λ b. cond b (Some at) (lookup (bytes_eq h) old)) apart ∙ before.1, before.2)
            ]
      ];
    }
  where
    last_or : (i n : ℕ) → i < n + 1 → (i ≡ n) ⊎ (i < n)
    last_or i n under = grind arith

-- no earlier node has this hash
pub noted_new : (news : List NewNode) (at : ℕ) (new : NewNode) (old after : List (List ℕ × ℕ)) → new ≡ get_or news at new → at < length news
    → ((q : List ℕ) → lookup (bytes_eq q) after ≡ cond (bytes_eq new.hash q) (Some at) (lookup (bytes_eq q) old))
    → lookup (bytes_eq new.hash) old ≡ None → AreNoted news at old → AreNoted news (at + 1) after
noted_new news at new old after is below added none =
    noted_more news at new old after is below added (λ place found. absurd (no_some (sym none ∙ found)))
  where
    no_some : {place : ℕ} → None ≡ Some place → ⊥
    no_some e = cc

-- an earlier node of this hash is the same
pub noted_again : (news : List NewNode) (at earlier : ℕ) (new other : NewNode) (old after : List (List ℕ × ℕ)) → new ≡ get_or news at new → at < length news
    → ((q : List ℕ) → lookup (bytes_eq q) after ≡ cond (bytes_eq new.hash q) (Some at) (lookup (bytes_eq q) old))
    → lookup (bytes_eq new.hash) old ≡ Some earlier → AreNoted news at old → shape_of (get_or news earlier other).node ≡ shape_of new.node
    → AreNoted news (at + 1) after
noted_again news at earlier new other old after is below added some noted alike =
    let under : earlier < at = (noted.here new new.hash earlier some).0 in
    let within : earlier < length news = omega (arith, under, below) in
    noted_more news at new old after is below added
    (λ place found.
    let e : place ≡ earlier = some_once (sym found ∙ some) in
    ap (λ p. shape_of (get_or news p new).node) e ∙ ap (λ (n : NewNode). shape_of n.node) (get_or_default news earlier new other within) ∙ alike)
    noted

-- the noted place of this hash is an earlier one
pub earlier_below : (news : List NewNode) (at earlier : ℕ) (new : NewNode) (old : List (List ℕ × ℕ)) → at < length news
    → lookup (bytes_eq new.hash) old ≡ Some earlier → AreNoted news at old → earlier < length news
earlier_below news at earlier new old below some noted =
    let under : earlier < at = (noted.here new new.hash earlier some).0 in omega (arith, under, below)

-- ---- what is told

-- a new node, and a kept one that differs
pub told_kept : (hash : List ℕ → List ℕ) (nodes : Nodes) (news : List NewNode) (at : ℕ) (new : NewNode) (kept : Shape) → new ≡ get_or news at new
    → at < length news → AreNamed hash news → AreUnderTheirs hash nodes → kept_at nodes new.hash ≡ Some kept
    → (fault : StoreFault) → IsToldApart kept (shape_of new.node) fault → IsClashOf hash nodes news fault
told_kept hash nodes news at new kept is below named theirs found OutOfMemory told = tt
told_kept hash nodes news at new kept is below named theirs found (Collision first given) told =
    let named_kept : new.hash ≡ hash (encoding_of kept) = theirs new.hash kept found in (
      subst (IsIn news) (ap (λ (n : NewNode). shape_of n.node) (sym is) ∙ sym told.1) (in_at news at new below),
      inl (ap (λ s. kept_at nodes (hash (encoding_of s))) told.0 ∙ ap (kept_at nodes) (sym named_kept) ∙ found ∙ ap Some (sym told.0)),
      λ e. told.2 (sym told.0 ∙ e ∙ told.1),
      ap (λ s. hash (encoding_of s)) told.0 ∙ sym named_kept ∙ named_here hash news at new is below named ∙ ap (λ s. hash (encoding_of s)) (sym told.1),
    )

-- two new nodes that differ
pub told_earlier : (hash : List ℕ → List ℕ) (nodes : Nodes) (news : List NewNode) (at earlier : ℕ) (new other : NewNode) (old : List (List ℕ × ℕ))
    → new ≡ get_or news at new → at < length news → AreNamed hash news → AreNoted news at old → lookup (bytes_eq new.hash) old ≡ Some earlier
    → (fault : StoreFault) → IsToldApart (shape_of (get_or news earlier other).node) (shape_of new.node) fault → IsClashOf hash nodes news fault
told_earlier hash nodes news at earlier new other old is below named noted found OutOfMemory told = tt
told_earlier hash nodes news at earlier new other old is below named noted found (Collision first given) told =
    let within = earlier_below news at earlier new old below found noted in
    let alike : (get_or news earlier other).hash ≡ new.hash = (noted.here other new.hash earlier found).1 in (
      subst (IsIn news) (ap (λ (n : NewNode). shape_of n.node) (sym is) ∙ sym told.1) (in_at news at new below),
      inr (subst (IsIn news) (sym told.0) (in_at news earlier other within)),
      λ e. told.2 (sym told.0 ∙ e ∙ told.1),
      ap (λ s. hash (encoding_of s)) told.0 ∙ sym (named_at hash news earlier other named within) ∙ alike ∙ named_here hash news at new is below named
          ∙ ap (λ s. hash (encoding_of s)) (sym told.1),
    )

-- ---- what is free

free_here : (hash : List ℕ → List ℕ) (nodes : Nodes) (news : List NewNode) (at : ℕ) (new : NewNode) → new ≡ get_or news at new → at < length news
    → IsFree hash nodes (shape_of new.node) → IsFreeAt hash nodes news at
free_here hash nodes news at new is below free other =
    subst (λ (n : NewNode). IsFree hash nodes (shape_of n.node)) (is ∙ get_or_default news at new other below) free

-- no node is kept under this hash
pub free_of_none : (hash : List ℕ → List ℕ) (nodes : Nodes) (news : List NewNode) (at : ℕ) (new : NewNode) → new ≡ get_or news at new → at < length news
    → AreNamed hash news → kept_at nodes new.hash ≡ None → IsFreeAt hash nodes news at
free_of_none hash nodes news at new is below named none =
    free_here hash nodes news at new is below
    (subst (λ o. IfSome o (λ kept. kept ≡ shape_of new.node)) (sym (ap (kept_at nodes) (sym (named_here hash news at new is below named)) ∙ none)) tt)

-- the same node is kept under it
pub free_of_same : (hash : List ℕ → List ℕ) (nodes : Nodes) (news : List NewNode) (at : ℕ) (new : NewNode) (kept : Shape) → new ≡ get_or news at new
    → at < length news → AreNamed hash news → kept_at nodes new.hash ≡ Some kept → kept ≡ shape_of new.node → IsFreeAt hash nodes news at
free_of_same hash nodes news at new kept is below named found same =
    free_here hash nodes news at new is below
    (subst (λ o. IfSome o (λ kept. kept ≡ shape_of new.node)) (sym (ap (kept_at nodes) (sym (named_here hash news at new is below named)) ∙ found)) same)

-- ---- all of them

free_is : (o : Option Shape) (s t : Shape) → IfSome o (λ kept. kept ≡ t) → o ≡ Some s → s ≡ t
free_is None s t free some = absurd cc
free_is (Some k) s t free some = cc

some_shape : {s t : Shape} → Some s ≡ Some t → s ≡ t
some_shape e = cc

pub all_clear : (hash : List ℕ → List ℕ) (nodes : Nodes) (news : List NewNode) (count : ℕ) (places : List (List ℕ × ℕ)) → count ≡ length news
    → AreNamed hash news → ((at : ℕ) → at < count → IsFreeAt hash nodes news at) → AreNoted news count places → AreClear hash nodes news
all_clear hash nodes news count places all named free noted s t is_s is_t e =
    elim is_s [
      | inl kept_s ↦ elim is_t [
        | inl kept_t ↦ some_shape (sym kept_s ∙ ap (kept_at nodes) e ∙ kept_t)
        | inr new_t ↦ kept_new s t kept_s (stands news t new_t) e
      ]
      | inr new_s ↦ elim is_t [
        | inl kept_t ↦ sym (kept_new t s kept_t (stands news s new_s) (sym e))
        | inr new_t ↦ two_new s t (stands news s new_s) (stands news t new_t) e
      ]
    ]
  where
    kept_new : (s t : Shape) → kept_at nodes (hash (encoding_of s)) ≡ Some s → Stands news t → hash (encoding_of s) ≡ hash (encoding_of t) → s ≡ t
    kept_new s t kept place e =
        free_is (kept_at nodes (hash (encoding_of t))) s t
        (subst (λ u. IfSome (kept_at nodes (hash (encoding_of u))) (λ k. k ≡ u)) place.is (free place.at (omega (arith, place.below, all)) place.other))
        (ap (kept_at nodes) (sym e) ∙ kept)

    two_new : (s t : Shape) → Stands news s → Stands news t → hash (encoding_of s) ≡ hash (encoding_of t) → s ≡ t
    two_new s t one two e =
        let first = noted.same one.other one.at (omega (arith, one.below, all)) in
        let second = noted.same two.other two.at (omega (arith, two.below, all)) in
        let hash_s : (get_or news one.at one.other).hash ≡ hash (encoding_of s) = named_at hash news one.at one.other named one.below
        ∙ ap (λ u. hash (encoding_of u)) one.is in
        let hash_t : (get_or news two.at two.other).hash ≡ hash (encoding_of t) = named_at hash news two.at two.other named two.below
        ∙ ap (λ u. hash (encoding_of u)) two.is in
        let place : first.0 ≡ second.0 = some_once (sym first.1 ∙ ap (λ q. lookup (bytes_eq q) places) (hash_s ∙ e ∙ sym hash_t) ∙ second.1) in
        let under : second.0 < count = (noted.here two.other (get_or news two.at two.other).hash second.0 second.1).0 in
        let within : second.0 < length news = omega (arith, under, all) in
        sym one.is ∙ sym first.2 ∙ ap (λ p. shape_of (get_or news p one.other).node) place
        ∙ ap (λ (n : NewNode). shape_of n.node) (get_or_default news second.0 one.other two.other within) ∙ second.2 ∙ two.is
