-- One group of changes alone below a node with no kid or with one that it goes on with.
use Rattle.std.proofs.Common.{◌≡◌, ℕ, zero, suc, ◌-◌, ◌<◌, ◌≤◌, true, cond, List, [], ◌∷◌, length, map, take, drop, get_or, refl, sym, ap, ◌∙◌, subst, arith, nat_eq, Option, Some, None, inr}
use Rattle.std.specs.Option.{option_map}
use Rattle.std.specs.List.Sorted.{IsStrictlySortedBy}
use Rattle.std.specs.Ordering.{nat_cmp}
use Rattle.std.proofs.Math.Seq.{drop-cons}
use Rattle.std.proofs.lemmas.Bool.{eq-eqb}
use Rattle.std.proofs.lemmas.List.{drop_all, take_all}
use Rattle.saw_address.specs.Maps.{is_address}
use Rattle.saw_messages.specs.declared.outcome.Change.{Change}
use Rattle.saw_runs.specs.Places.{EndsGroup, byte_of}
use Rattle.saw_runs.proofs.Tabled.{not_below}
use Rattle.saw_runs.specs.Entries.{Entry}
use Rattle.saw_runs.specs.Entries.Entry.{OfNode}
use Rattle.saw_runs.specs.Tables.{at_byte, in_front, replaced}
use Rattle.saw_runs.specs.Lowers.{AreKidsOf, IsOpened, kid_pair}
use Rattle.saw_runs.specs.Changes.{AddsPiece, ChangesBelow, ChangesLeaf, Finishes, IsOnly, MakesLeaf, OnTop}
use Rattle.saw_runs.specs.declared.run.Run.{Run}
use Rattle.saw_runs.specs.declared.pieces.NewPiece.{NewPiece}
use Rattle.saw_runs.specs.declared.lowers.Lower.TheVariants.{Held, Made}
use Rattle.saw_runs.specs.declared.lowers.Kid.{Kid}
use Rattle.saw_runs.proofs.Finishing.{finish_none, finish_one}
use Rattle.saw_runs.proofs.InOrder.{one_rises, none_rise}
use Rattle.saw_runs.proofs.Leading.{size_of}
use Rattle.saw_runs.proofs.Walking.{leaf_here, walked_first, walked_here, walked_through}

-- ---- a node with one kid goes on with it

opened_made : (read : List ℕ → Option Entry) (run : Run) → IsOpened read (Some (Made run)) run.path.items (Some run.bottom)
opened_made read run = record {
  none = λ e. absurd cc;
  made = λ other e. let same : run ≡ other = is e in (ap (λ (r : Run). r.path.items) same, ap (λ (r : Run). Some r.bottom) same);
  run = λ h p b e found. absurd (apart e);
  node = λ h shape e found. absurd (apart e);
}
  where
    is : {other : Run} → Some (Made run) ≡ Some (Made other) → run ≡ other
    is e = cc

    apart : {h : List ℕ} → Some (Made run) ≡ Some (Held h) → ⊥
    apart e = cc

opened_none : (read : List ℕ → Option Entry) (path : List ℕ) → IsOpened read None path None
opened_none read path = record {
  none = λ e. refl;
  made = λ other e. absurd cc;
  run = λ h p b e found. absurd cc;
  node = λ h shape e found. absurd cc;
}

abbrev kid_of : ℕ → Run → Kid
kid_of b run = record { byte = b; lower = Made run }

-- the kids of a node with one kid, or none
abbrev kids_with : ℕ → Option Run → List Kid
kids_with b None = []
kids_with b (Some run) = kid_of b run ∷ []

abbrev pub path_of : Option Run → List ℕ
path_of None = []
path_of (Some run) = run.path.items

abbrev pub bottom_of : Option Run → Option (List ℕ)
bottom_of None = None
bottom_of (Some run) = Some run.bottom

kids_front : (b : ℕ) (answer : Option Run) → map kid_pair (kids_with b answer) ≡ in_front b (option_map Made answer) []
kids_front b None = refl
kids_front b (Some run) = refl

replaced_one : (b : ℕ) (kid answer : Option Run) → map kid_pair (kids_with b answer) ≡ replaced b (option_map Made answer) (map kid_pair (kids_with b kid))
replaced_one b None answer = kids_front b answer
replaced_one b (Some kid) answer =
    let o = option_map Made answer in
    kids_front b answer ∙ sym (ap (λ t. cond t ((b, Made kid) ∷ replaced b o []) (in_front b o (cond (nat_eq b b) [] ((b, Made kid) ∷ [])))) (not_below b b (omega arith))
    ∙ ap (λ t. in_front b o (cond t [] ((b, Made kid) ∷ []))) (eq-eqb b b refl))

opens_one : (read : List ℕ → Option Entry) (b : ℕ) (kid : Option Run) → IsOpened read (at_byte b (map kid_pair (kids_with b kid))) (path_of kid) (bottom_of kid)
opens_one read b None = opened_none read []
opens_one read b (Some run) =
    subst (λ t. IsOpened read (cond t (Some (Made run)) None) run.path.items (Some run.bottom)) (sym (eq-eqb b b refl)) (opened_made read run)

rises_one : (b : ℕ) (kid : Option Run) → IsStrictlySortedBy nat_cmp (map (λ kid. kid.byte) (kids_with b kid))
rises_one b None = none_rise
rises_one b (Some run) = one_rises b

finishes_one : (hash : List ℕ → List ℕ) (read : List ℕ → Option Entry) (b : ℕ) (answer above : Option Run) (new : List NewPiece) → OnTop b answer above
    → Finishes hash read (kids_with b answer) above new new
finishes_one hash read b None None new top = finish_none hash read [] new refl
finishes_one hash read b None (Some above) new top = absurd top
finishes_one hash read b (Some run) None new top =
    finish_one hash read (kid_of b run ∷ []) (kid_of b run) None new refl (run.path.items, Some run.bottom, opened_made read run, inr top)
finishes_one hash read b (Some run) (Some above) new top =
    finish_one hash read (kid_of b run ∷ []) (kid_of b run) (Some above) new refl
    (run.path.items, subst (λ h. IsOpened read (Some (Made run)) run.path.items (Some h)) (sym top.1) (opened_made read run), top.0)

-- the kid that what is read there has
abbrev only_kid : Option (List ℕ) → List ℕ → Option Run
only_kid None below = None
only_kid (Some h) below = Some (record { path = record { items = below }; bottom = h })

are_only : (read : List ℕ → Option Entry) (b : ℕ) (path : List ℕ) (before : Option (List ℕ)) (below : List ℕ) (bottom : Option (List ℕ))
    → IsOnly b path before below bottom → AreKidsOf read path before (kids_with b (only_kid before below))
are_only read b path None below bottom only = refl
are_only read b path (Some h) below bottom only =
    let run : Run = record { path = record { items = below }; bottom = h } in
    let here : AreKidsOf read (b ∷ below) (Some h) (kid_of b (record { path = record { items = below }; bottom = h }) ∷ []) = (run, refl, refl, refl) in
    subst (λ p. AreKidsOf read p (Some h) (kid_of b (record { path = record { items = below }; bottom = h }) ∷ [])) (sym only.0) here

path_only : (b : ℕ) (path : List ℕ) (before : Option (List ℕ)) (below : List ℕ) (bottom : Option (List ℕ)) → IsOnly b path before below bottom
    → below ≡ path_of (only_kid before below)
path_only b path None below bottom only = only.0
path_only b path (Some h) below bottom only = refl

bottom_only : (b : ℕ) (path : List ℕ) (before : Option (List ℕ)) (below : List ℕ) (bottom : Option (List ℕ)) → IsOnly b path before below bottom
    → bottom ≡ bottom_of (only_kid before below)
bottom_only b path None below bottom only = only.1
bottom_only b path (Some h) below bottom only = only.1

module _ (hash : List ℕ → List ℕ) (read : List ℕ → Option Entry) (changes : List Change) (levels : ℕ) (path : List ℕ) (before : Option (List ℕ))
    (old new : List NewPiece) (b : ℕ) (here : Change) (some : 0 < levels) (deep : levels ≤ 35) (whole : EndsGroup (35 - levels) changes 0 (length changes))
    (is_here : here ≡ get_or changes 0 here) (is_byte : b ≡ get_or here.address (35 - levels) 0) (is_one : is_address here.address ≡ true) where
  all_of : take (length changes - 0) (drop 0 changes) ≡ changes
  all_of = take_all (length changes - 0) (drop 0 changes) (omega arith)

  -- where all changes go down one byte, and the node has no other kid, what comes back from below is gone on with
  pub one_group : (kid answer above : Option Run) → AreKidsOf read path before (kids_with b kid)
      → ChangesBelow hash read changes (levels - 1) (path_of kid) (bottom_of kid) answer old new → OnTop b answer above
      → ChangesBelow hash read changes levels path before above old new
  one_group kid answer above are changed top =
      walked_through hash read changes levels path before old some new new (length changes) (kids_with b answer) above (omega arith)
      (finishes_one hash read b answer above new top)
      (walked_here hash read changes levels path before old some old new 0 (length changes) b here here.address (kids_with b kid) (kids_with b answer)
      (path_of kid) (bottom_of kid) answer deep whole is_here refl is_byte is_one (opens_one read b kid)
      (subst (λ cs. ChangesBelow hash read cs (levels - 1) (path_of kid) (bottom_of kid) answer old new) (sym all_of) changed)
      (replaced_one b kid answer)
      (walked_first hash read changes (levels - 1) (35 - levels) path before old (kids_with b kid) are (rises_one b kid)))

  -- the same, for what is read there
  pub only_group : (below : List ℕ) (bottom : Option (List ℕ)) (answer above : Option Run) → IsOnly b path before below bottom
      → ChangesBelow hash read changes (levels - 1) below bottom answer old new → OnTop b answer above
      → ChangesBelow hash read changes levels path before above old new
  only_group below bottom answer above only changed top =
      one_group (only_kid before below) answer above (are_only read b path before below bottom only)
      (subst (λ p. ChangesBelow hash read changes (levels - 1) p (bottom_of (only_kid before below)) answer old new) (path_only b path before below bottom only)
      (subst (λ o. ChangesBelow hash read changes (levels - 1) below o answer old new) (bottom_only b path before below bottom only) changed)) top

-- ---- one change where nothing lies

alone : (change : Change) (depth : ℕ) → EndsGroup depth (change ∷ []) 0 1
alone change depth = record {
  within = omega arith;
  ends = omega arith;
  same = λ k d low high. let first : k ≡ 0 = omega (arith, high) in ap (λ n. byte_of depth (get_or (change ∷ []) n d)) first;
  edge = λ d lt. absurd (omega (arith, lt));
}

below : (levels : ℕ) → levels ≡ suc levels - 1
below levels = omega arith

none_some : {A : Type 0} {x : A} → Some x ≡ None → ⊥
none_some e = cc

leaf_end : (hash : List ℕ → List ℕ) (value : Option (List ℕ)) (bottom : List ℕ) (run : Run) (old new : List NewPiece) → MakesLeaf hash value (Some bottom) old new
    → run.path.items ≡ [] → run.bottom ≡ bottom → ChangesLeaf hash value (Some run) old new
leaf_end hash None bottom run old new makes path_is bottom_is = absurd (none_some makes.0)
leaf_end hash (Some value) bottom run old new makes path_is bottom_is = record {
  path = path_is;
  adds = subst (λ h. AddsPiece hash (OfNode (record { value = Some value; children = [] })) h old new) (sym bottom_is) makes;
}

leaf_not : (hash : List ℕ → List ℕ) (value : Option (List ℕ)) (old new : List NewPiece) → MakesLeaf hash value None old new → ChangesLeaf hash value None old new
leaf_not hash None old new makes = (refl, makes.1)
leaf_not hash (Some value) old new makes = absurd makes

module _ (hash : List ℕ → List ℕ) (read : List ℕ → Option Entry) (change : Change) (old new : List NewPiece) (is : is_address change.address ≡ true) where
  pub grown_some : (levels : ℕ) (path bottom : List ℕ) (run : Run) → levels ≤ 35 → MakesLeaf hash change.value (Some bottom) old new
      → run.path.items ≡ drop (35 - levels) change.address → run.bottom ≡ bottom → ChangesBelow hash read (change ∷ []) levels path None (Some run) old new
  grown_some zero path bottom run deep makes path_is bottom_is =
      let size = size_of change.address is in
      leaf_here hash read (change ∷ []) path None 0 change refl 0 change.value (Some run) old new refl refl
      (leaf_end hash change.value bottom run old new makes (path_is ∙ drop_all (35 - 0) change.address (omega (arith, size))) bottom_is)
  grown_some (suc levels) path bottom run deep makes path_is bottom_is =
      let size = size_of change.address is in
      let rest : Run = record { path = record { items = drop (35 - levels) change.address }; bottom = bottom } in
      let next : suc (35 - suc levels) ≡ 35 - levels = omega (arith, deep) in
      one_group hash read (change ∷ []) (suc levels) path None old new (get_or change.address (35 - suc levels) 0) change (omega arith) deep
      (alone change (35 - suc levels)) refl refl is None (Some rest) (Some run) refl
      (subst (λ n. ChangesBelow hash read (change ∷ []) n [] None (Some rest) old new) (below levels) (grown_some levels [] bottom rest (omega (arith, deep)) makes refl refl)) (
        path_is ∙ drop-cons change.address (35 - suc levels) 0 (omega (arith, size, deep))
            ∙ ap (λ n. get_or change.address (35 - suc levels) 0 ∷ drop n change.address) next,
        bottom_is,
      )

  pub grown_none : (levels : ℕ) (path : List ℕ) → levels ≤ 35 → MakesLeaf hash change.value None old new
      → ChangesBelow hash read (change ∷ []) levels path None None old new
  grown_none zero path deep makes =
      leaf_here hash read (change ∷ []) path None 0 change refl 0 change.value None old new refl refl (leaf_not hash change.value old new makes)
  grown_none (suc levels) path deep makes =
      one_group hash read (change ∷ []) (suc levels) path None old new (get_or change.address (35 - suc levels) 0) change (omega arith) deep
      (alone change (35 - suc levels)) refl refl is None None None refl
      (subst (λ n. ChangesBelow hash read (change ∷ []) n [] None None old new) (below levels) (grown_none levels [] (omega (arith, deep)) makes)) tt

pub only_change : (changes : List Change) (change : Change) → 1 ≤ length changes → length changes < 2 → change ≡ get_or changes 0 change → changes ≡ change ∷ []
only_change [] change some few is = absurd (omega (arith, some))
only_change (x ∷ []) change some few is = ap (λ (y : Change). y ∷ []) (sym is)
only_change (x ∷ y ∷ xs) change some few is = absurd (omega (arith, few))
