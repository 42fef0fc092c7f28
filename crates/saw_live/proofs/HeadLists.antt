-- Each step keeps the rule of the cell.
use Rattle.std.proofs.Common.{◌≡◌, ◌≢◌, ◌≤◌, ◌+◌, ℕ, zero, suc, true, false, true≢false, List, [], ◌∷◌, ◌++◌, length, set, take, drop, get_or, sym, refl, ap, ◌∙◌, subst, ⊎_elim, inl, inr, append_assoc, append-nil, arith, length-append, Some, slice_get, map, ap₂}
use Rattle.std.proofs.lemmas.List.{length-map, map-append}
use Rattle.std.proofs.lemmas.Option.{slice_get-map}
use Rattle.std.specs.List.{AllByRecursion}
use Rattle.std.specs.Prelude.{option_map}
use Rattle.hex.specs.Hex.{encode_lower}
use lib.Seq.{take-append_seam, drop-append_seam}
use mathlib.Core.Option.{some, some-ne-none}
use lib.ListN.{get_elem?}
use Rattle.crossbeam_utils.specs.Register.{Turns, Forks, Merges}
use Rattle.atomic_table.proofs.Lists.{at_set, at_snoc, set_again}
use Rattle.saw_context.proofs.Each.{all_weaker}
use Rattle.saw_live.specs.declared.rule.HeadWords.{HeadWords}
use Rattle.saw_live.specs.declared.rule.Known.{Known}
use Rattle.saw_live.specs.Words.{bytes_of, head, head_in}
use Rattle.saw_live.specs.Heads.{head_words, knows, head_of, Ends, StartsWith, Fits, ShowsLastHead, Looks, Adds}

abbrev Each : (ℕ → Known → Type 0) → List Known → Type 0
Each F views = (by : ℕ) (v : Known) → get_elem? views by ≡ some v → F by v

each_set : (F : ℕ → Known → Type 0) (views : List Known) (by : ℕ) (w : Known) → F by w → ((j : ℕ) (u : Known) → j ≢ by → get_elem? views j ≡ some u → F j u) → Each F (set views by w)
each_set F views by w mine others j u e = ⊎_elim (λ (x : (j ≡ by) × (w ≡ u)). subst (λ (y : ℕ × Known). F y.0 y.1) (λ i. (sym x.0 i, x.1 i)) mine)
    (λ (x : (j ≢ by) × (get_elem? views j ≡ some u)). others j u x.0 x.1) (at_set views by j w u e)

pub begins : (words : List ℕ) → get_or words 0 0 ≡ 0 → ShowsLastHead words (knows true [] ∷ [])
begins words none = (0, [], (sym none, inl refl), first)
  where
    first : (by : ℕ) (v : Known) → get_elem? (knows true [] ∷ []) by ≡ some v → Fits 0 [] by v
    first zero v e = let same : knows true [] ≡ v = cc in subst (Fits 0 [] 0) same (([], refl), λ _. (refl, refl), tt)
    first (suc by) v e = absurd (some-ne-none v (sym e))

pub looks : (by : ℕ) (v : Known) → Turns ShowsLastHead by v (λ x. x) (λ v before after w. Looks v after w)
looks by v words views h at = let log = h.1 in let mine = h.3 by v at in let w : Known = record v { seen = log } in (
  w,
  (h.0, log, h.2, each_set (Fits h.0 log) views by w (([], sym (append-nil log)), (λ p. ((mine.1 p).0, refl)), mine.2) (λ j u _ e. h.3 j u e)),
  (mine.0, refl, h.2, (λ p. sym (mine.1 p).1), refl, mine.2),
)

longer : (log more seen : List HeadWords) → StartsWith log seen → StartsWith (log ++ more) seen
longer log more seen (rest, is) = (rest ++ more, ap (λ l. l ++ more) is ∙ append_assoc seen rest more)

all_longer : (log more : List HeadWords) (met : List (List HeadWords)) → AllByRecursion (StartsWith log) met
    → AllByRecursion (StartsWith (log ++ more)) met
all_longer log more = all_weaker (StartsWith log) (StartsWith (log ++ more)) (longer log more)

pub adds : (by : ℕ) (v : Known) (words : List ℕ) → v.publishes ≡ true → get_or words 0 0 ≡ length v.seen + 1 → Turns ShowsLastHead by v (λ _. words) (λ v before after w. Adds v after w)
adds by v words may count old views h at =
    let log = h.1 in
    let mine = h.3 by v at in
    let e : HeadWords = head_of words in
    let whole : v.seen ≡ log = (mine.1 may).1 in
    let w : Known = record v { seen = v.seen ++ e ∷ [] } in
    let more : List HeadWords = log ++ e ∷ [] in
    let same : v.seen ++ e ∷ [] ≡ more = ap (λ l. l ++ e ∷ []) whole in
    let len : length more ≡ get_or words 0 0 = length-append log (e ∷ []) ∙ ap (λ l. length l + 1) (sym whole) ∙ sym count in (
      w,
      (
        h.0,
        more,
        (len, inr (log, refl)),
        each_set (Fits h.0 more) views by w
            (([], sym same ∙ sym (append-nil (v.seen ++ e ∷ []))), (λ p. ((mine.1 may).0, same)), all_longer log (e ∷ []) v.met mine.2)
            (λ j u other a. let theirs = h.3 j u a in (
              longer log (e ∷ []) u.seen theirs.0,
              (λ p. absurd (other ((theirs.1 p).0 ∙ sym (mine.1 may).0))),
              all_longer log (e ∷ []) u.met theirs.2,
            )),
      ),
      refl,
    )

pub forks : (by : ℕ) (v : Known) → Forks ShowsLastHead by v v (knows false v.seen)
forks by v words views h at =
    let log = h.1 in
    let mine = h.3 by v at in
    rw (set_again views by v at) (
      h.0,
      log,
      h.2,
      λ j u e. ⊎_elim (λ was. h.3 j u was) (λ (same : knows false v.seen ≡ u). subst (λ (y : Known). Fits h.0 log j y) same (mine.0, (λ p. absurd (true≢false (sym p))), tt)) (at_snoc views (knows false v.seen) u j e),
    )

-- what a pass that ends has seen is a beginning of the list
pub retires : (by : ℕ) (v : Known) (other : ℕ) (w : Known)
    → Merges ShowsLastHead by v other w (record v { met = w.seen ∷ v.met }) (knows false [])
retires by v other w words views h at two at' =
    let publisher = h.0 in
    let log = h.1 in
    let both : Known = record v { met = w.seen ∷ v.met } in
    let spent : Known = knows false [] in
    let joined : List Known = set views by both in
    let was : get_elem? views other ≡ some w = ⊎_elim (λ x. absurd (two x.0)) (λ x. x.1) (at_set views by other both w at') in
    let mine = h.3 by v at in
    let theirs = h.3 other w was in
    let now : Each (Fits publisher log) joined =
    each_set (Fits publisher log) views by both (mine.0, mine.1, (theirs.0, mine.2)) (λ j u _ e. h.3 j u e) in (
      publisher,
      log,
      h.2,
      each_set (Fits publisher log) joined other spent ((log, refl), (λ p. absurd (true≢false (sym p))), tt) (λ j u _ e. now j u e),
    )

-- what the first of the passes that ended had seen is a beginning, as all of them are
pub met_first : (now : List HeadWords) (met before : List (List HeadWords)) (first seen : List HeadWords) → met ≡ first ∷ before → first ≡ seen
    → AllByRecursion (StartsWith now) met → StartsWith now seen
met_first now met before first seen is of all =
    let each : AllByRecursion (StartsWith now) (first ∷ before) = subst (AllByRecursion (StartsWith now)) is all in
    subst (StartsWith now) of each.0

-- a list is its elements
pub eight : (xs : List ℕ) → length xs ≡ 8 → xs ≡ get_or xs 0 0 ∷ get_or xs 1 0 ∷ get_or xs 2 0 ∷ get_or xs 3 0 ∷ get_or xs 4 0 ∷ get_or xs 5 0 ∷ get_or xs 6 0 ∷ get_or xs 7 0 ∷ []
eight ([]) len = absurd (omega arith)
eight (a0 ∷ []) len = absurd (omega arith)
eight (a0 ∷ a1 ∷ []) len = absurd (omega arith)
eight (a0 ∷ a1 ∷ a2 ∷ []) len = absurd (omega arith)
eight (a0 ∷ a1 ∷ a2 ∷ a3 ∷ []) len = absurd (omega arith)
eight (a0 ∷ a1 ∷ a2 ∷ a3 ∷ a4 ∷ []) len = absurd (omega arith)
eight (a0 ∷ a1 ∷ a2 ∷ a3 ∷ a4 ∷ a5 ∷ []) len = absurd (omega arith)
eight (a0 ∷ a1 ∷ a2 ∷ a3 ∷ a4 ∷ a5 ∷ a6 ∷ []) len = absurd (omega arith)
eight (a0 ∷ a1 ∷ a2 ∷ a3 ∷ a4 ∷ a5 ∷ a6 ∷ a7 ∷ []) len = refl
eight (a0 ∷ a1 ∷ a2 ∷ a3 ∷ a4 ∷ a5 ∷ a6 ∷ a7 ∷ y ∷ ys) len = absurd (omega arith)

pub four : (xs : List ℕ) → length xs ≡ 4 → xs ≡ get_or xs 0 0 ∷ get_or xs 1 0 ∷ get_or xs 2 0 ∷ get_or xs 3 0 ∷ []
four ([]) len = absurd (omega arith)
four (a0 ∷ []) len = absurd (omega arith)
four (a0 ∷ a1 ∷ []) len = absurd (omega arith)
four (a0 ∷ a1 ∷ a2 ∷ []) len = absurd (omega arith)
four (a0 ∷ a1 ∷ a2 ∷ a3 ∷ []) len = refl
four (a0 ∷ a1 ∷ a2 ∷ a3 ∷ y ∷ ys) len = absurd (omega arith)

-- the words show the head_words that they were made of
pub head_of_words : (count : ℕ) (id root : List ℕ) → length id ≡ 8 → length root ≡ 4 → head_of (count ∷ (id ++ root)) ≡ head_words id root
head_of_words count id root len more =
    let a : take 8 (id ++ root) ≡ id = subst (λ (n : ℕ). take n (id ++ root) ≡ id) len (take-append_seam id root) in
    let b : drop 8 (id ++ root) ≡ root = subst (λ (n : ℕ). drop n (id ++ root) ≡ root) len (drop-append_seam id root) in
    let c : take 4 root ≡ root = subst (λ (n : ℕ). take n root ≡ root) more (ap (take (length root)) (sym (append-nil root)) ∙ take-append_seam root []) in rw (a, b, c) refl

get_last : {A : Type 0} → (xs : List A) (x : A) → slice_get (xs ++ x ∷ []) (length xs) ≡ Some x
get_last [] x = refl
get_last (y ∷ xs) x = get_last xs x

-- where the words count some, the last is the head_words that they show
pub last_head : (log : List HeadWords) (words : List ℕ) (n : ℕ) → Ends log words → get_or words 0 0 ≡ n + 1 → slice_get log n ≡ Some (head_of words)
last_head log words n (len, ends) some_more =
    ⊎_elim (λ (none : log ≡ []). absurd (omega (arith, ap length none)))
    (λ (x : (before : List HeadWords) × (log ≡ before ++ head_of words ∷ [])).
    let k : length x.0 ≡ n = omega (arith, ap length x.1, length-append x.0 (head_of words ∷ [])) in
    let at : slice_get log (length x.0) ≡ Some (head_of words) = subst (λ (l : List HeadWords). slice_get l (length x.0) ≡ Some (head_of words)) (sym x.1) (get_last x.0 (head_of words)) in
    subst (λ (i : ℕ). slice_get log i ≡ Some (head_of words)) k at) ends

pub starts_later : (after middle before : List HeadWords) → StartsWith middle before → StartsWith after middle → StartsWith after before
starts_later after middle before (more, is) (rest, then) = (more ++ rest, then ∙ ap (λ l. l ++ rest) is ∙ append_assoc before more rest)

pub starts_same : (log : List HeadWords) → StartsWith log log
starts_same log = ([], sym (append-nil log))

pub starts_length : (after before : List HeadWords) → StartsWith after before → length before ≤ length after
starts_length after before (rest, is) = omega (arith, ap length is, length-append before rest)

-- the last head, of which this is the id and this the root
pub told_last : (seen : List HeadWords) (words : List ℕ) (n : ℕ) (shown : HeadWords) (id root : List ℕ) → Ends seen words → get_or words 0 0 ≡ n + 1
    → shown ≡ head_of words → id ≡ encode_lower (bytes_of shown.id) → bytes_of shown.root ≡ root
    → (length (map head_in seen) ≡ n + 1) × (slice_get (map head_in seen) n ≡ Some (head id root))
told_last seen words n shown id root ends more is digits bytes = (
  length-map seen head_in ∙ ends.0 ∙ more,
  slice_get-map head_in seen n ∙ ap (option_map head_in) (last_head seen words n ends more)
      ∙ ap (λ h. Some (head_in h)) (sym is) ∙ ap₂ (λ id root. Some (head id root)) (sym digits) bytes,
)

-- a longer list of heads in words is one of heads
pub starts_in : (whole front : List HeadWords) → StartsWith whole front → StartsWith (map head_in whole) (map head_in front)
starts_in whole front (rest, is) = (map head_in rest, ap (map head_in) is ∙ map-append head_in front rest)
