-- Each move keeps the rule of a queue.
use Rattle.std.proofs.Common.{◌≡◌, ◌≢◌, ◌+◌, ℕ, zero, suc, List, [], ◌∷◌, ◌++◌, map, length, set, sym, refl, ap, ◌∙◌, subst, ⊎_elim, append_assoc, append-nil, arith, length-append, Some, slice_get, if◌then◌else◌, ◌==◌, add-one, ◌<◌, ◌≤◌, Bool, true, false, true≢false, inl, inr}
use Rattle.std.proofs.lemmas.Bool.{eqb-true}
use mathlib.Core.Option.{some, some-ne-none}
use lib.ListN.{get_elem?}
use Rattle.crossbeam_deque.specs.Tasks.{Pushes, Takes, Forks, Merges, Finds, FindsFew}
use Rattle.crossbeam_deque.proofs.Lists.{at_set, at_snoc}
use Rattle.atomic_table.proofs.Lists.{set_here}
use Rattle.saw_context.specs.declared.job.Job.{Job}
use Rattle.saw_tickets.specs.declared.rule.Numbered.{Numbered}
use Rattle.saw_tickets.specs.declared.rule.View.{View}
use Rattle.saw_tickets.specs.TicketHistory.{numbered, alone, knows, numbered_from, places, times, total, once_below, AreIssued, Fits, IsClaimed, IsOneOf, IsRuled, MayBeEmpty, issued_to}

-- the total after a change of one view
total_set : (f : View → ℕ) (views : List View) (port : ℕ) (v w : View) → get_elem? views port ≡ some v → total f (set views port w) + f v ≡ total f views + f w
total_set f [] port v w at = absurd (some-ne-none v (sym at))
total_set f (x ∷ xs) zero v w at = let e : x ≡ v = cc in omega (arith, ap f e)
total_set f (x ∷ xs) (suc i) v w at = omega (arith, total_set f xs i v w at)

abbrev Each : (ℕ → View → Type 0) → List View → Type 0
Each F views = (port : ℕ) (v : View) → get_elem? views port ≡ some v → F port v

each_set : (F : ℕ → View → Type 0) (views : List View) (port : ℕ) (w : View) → F port w → ((j : ℕ) (u : View) → j ≢ port → get_elem? views j ≡ some u → F j u) → Each F (set views port w)
each_set F views port w mine others j u e = ⊎_elim (λ (x : (j ≡ port) × (w ≡ u)). subst (λ (y : ℕ × View). F y.0 y.1) (λ i. (sym x.0 i, x.1 i)) mine)
    (λ (x : (j ≢ port) × (get_elem? views j ≡ some u)). others j u x.0 x.1) (at_set views port j w u e)

in_list : (views : List View) (port : ℕ) (v : View) → get_elem? views port ≡ some v → port < length views
in_list [] port v at = absurd (some-ne-none v (sym at))
in_list (x ∷ xs) zero v at = omega arith
in_list (x ∷ xs) (suc i) v at = omega (arith, in_list xs i v at)

-- a pass that is not shared is the only one
abbrev Only : List View → View → Type 0
Only views v = v.shared ≡ false → views ≡ v ∷ []

-- where there is one view, it stands at 0
at_first : (views : List View) (u v : View) (port : ℕ) → views ≡ u ∷ [] → get_elem? views port ≡ some v → port ≡ 0
at_first views u v zero one at = refl
at_first views u v (suc port) one at =
    absurd (some-ne-none v (sym (subst (λ (l : List View). get_elem? l (suc port) ≡ some v) one at)))

-- a view changes, which is shared as before
only_set : (views : List View) (port : ℕ) (v w : View) → get_elem? views port ≡ some v → w.shared ≡ v.shared → Each (λ _ u. Only views u) views
    → Each (λ _ u. Only (set views port w) u) (set views port w)
only_set views port v w at same only = each_set (λ _ u. Only (set views port w) u) views port w
    (λ lone. let one = only port v at (sym same ∙ lone) in rw (at_first views v v port one at, one) refl)
    (λ j u other e lone. let one = only j u e lone in absurd (other (at_first views u u j one e ∙ sym (at_first views u v port one at))))

both_each : (F : ℕ → View → Type 0) (views : List View) → Each F views → Each (λ _ u. Only views u) views
    → Each (λ port u. F port u × Only views u) views
both_each F views fits only port v at = (fits port v at, only port v at)

numbered_snoc : (k : ℕ) (js : List Job) (j : Job) → numbered_from k (js ++ j ∷ []) ≡ numbered_from k js ++ numbered (k + length js) j ∷ []
numbered_snoc k [] j = ap (λ n. numbered n j ∷ []) (omega arith)
numbered_snoc k (x ∷ xs) j = let n : (k + 1) + length xs ≡ k + length (x ∷ xs) = omega arith in ap (λ es. numbered k x ∷ es) (numbered_snoc (k + 1) xs j ∙ ap (λ n. numbered_from (k + 1) xs ++ numbered n j ∷ []) n)

times_snoc : (p : ℕ) (es : List Numbered) (e : Numbered) → times p (places (es ++ e ∷ [])) ≡ times p (places es) + (if e.place == p then 1 else 0)
times_snoc p [] e = omega arith
times_snoc p (x ∷ xs) e = omega (arith, times_snoc p xs e)

get_longer : {A : Type 0} → (xs ys : List A) (k : ℕ) (x : A) → slice_get xs k ≡ Some x → slice_get (xs ++ ys) k ≡ Some x
get_longer [] ys k x at = cc
get_longer (y ∷ xs) ys zero x at = at
get_longer (y ∷ xs) ys (suc k) x at = get_longer xs ys k x at

get_last : {A : Type 0} → (xs : List A) (x : A) → slice_get (xs ++ x ∷ []) (length xs) ≡ Some x
get_last [] x = refl
get_last (y ∷ xs) x = get_last xs x

issued_longer : (gone more : List Job) (es : List Numbered) → AreIssued gone es → AreIssued (gone ++ more) es
issued_longer gone more [] h = tt
issued_longer gone more (e ∷ es) h = (get_longer gone more e.place e.job h.0, issued_longer gone more es h.1)

issued_snoc : (gone : List Job) (es : List Numbered) (e : Numbered) → AreIssued gone es → slice_get gone e.place ≡ Some e.job → AreIssued gone (es ++ e ∷ [])
issued_snoc gone [] e h at = (at, tt)
issued_snoc gone (x ∷ xs) e h at = (h.0, issued_snoc gone xs e h.1 at)

pub begins : IsRuled [] (alone [] [] ∷ [])
begins = ([], [], refl, (λ p. refl), λ port v e. first port v e)
  where
    first : (port : ℕ) (v : View) → get_elem? (alone [] [] ∷ []) port ≡ some v → Fits [] [] port v × Only (alone [] [] ∷ []) v
    first zero v e = let same : alone [] [] ≡ v = cc in
        subst (λ (u : View). Fits [] [] 0 u × Only (alone [] [] ∷ []) u) same (((λ _. refl), (λ _. refl), tt), λ _. refl)
    first (suc port) v e = absurd (some-ne-none v (sym e))

pub pushes : (v : View) (place : ℕ) (job : Job) → place ≡ length v.issued
    → Pushes IsRuled 0 v (numbered place job ∷ []) (λ w. w ≡ record v { issued = v.issued ++ job ∷ [] })
pushes v place job is items views h at =
    let gone = h.0 in
    let left = h.1 in
    let mine = (h.4 0 v at).0 in
    let w : View = record v { issued = v.issued ++ job ∷ [] } in
    let n : place ≡ length gone + length left = is ∙ ap length (mine.0 refl) ∙ length-append gone left in (
      w,
      (
        gone,
        left ++ job ∷ [],
        rw (h.2, n) (sym (numbered_snoc (length gone) left job)),
        (λ p. let t = total_set (λ u. times p (places u.claimed)) views 0 v w at in omega (arith, h.3 p, t)),
        both_each (Fits gone (gone ++ (left ++ job ∷ []))) (set views 0 w)
            (each_set (Fits gone (gone ++ (left ++ job ∷ []))) views 0 w
            ((λ _. ap (λ js. js ++ job ∷ []) (mine.0 refl) ∙ append_assoc gone left (job ∷ [])), (λ z. absurd (z refl)), mine.2)
            (λ j u other e. ((λ z. absurd (other z)), (h.4 j u e).0.1, (h.4 j u e).0.2)))
            (only_set views 0 v w at refl (λ j u e. (h.4 j u e).1)),
      ),
      refl,
    )

takes_one : (port : ℕ) (v : View) (e : Numbered) (items : List Numbered) (views : List View) (gone left : List Job) → e ∷ items ≡ numbered_from (length gone) left
    → ((p : ℕ) → total (λ v. times p (places v.claimed)) views ≡ once_below p (length gone))
    → Each (λ port v. Fits gone (gone ++ left) port v × Only views v) views → get_elem? views port ≡ some v
    → IsRuled items (set views port (record v { claimed = v.claimed ++ e ∷ [] }))
takes_one port v e items views gone [] eq counts fits at = cc
takes_one port v e items views gone (j ∷ js) eq counts fits at =
    let first : e ≡ numbered (length gone) j = cc in
    let rest : items ≡ numbered_from (length gone + 1) js = cc in
    let w : View = record v { claimed = v.claimed ++ e ∷ [] } in
    let mine = (fits port v at).0 in
    let more : List Job = gone ++ j ∷ [] in
    let len : length more ≡ length gone + 1 = length-append gone (j ∷ []) in
    let whole : more ++ js ≡ gone ++ (j ∷ js) = append_assoc gone (j ∷ []) js in (
      more,
      js,
      rw len rest,
      (λ p.
          let t = total_set (λ u. times p (places u.claimed)) views port v w at in
          let s = times_snoc p v.claimed e in
          let step : Numbered → ℕ = λ x. if x.place == p then 1 else 0 in
          let k : step e ≡ step (numbered (length gone) j) = ap step first in
          rw (len, add-one) (omega (arith, counts p, t, s, k))),
      rw whole
          (both_each (Fits more (gone ++ (j ∷ js))) (set views port w)
          (each_set (Fits more (gone ++ (j ∷ js))) views port w
          (mine.0, mine.1, issued_snoc more v.claimed e (issued_longer gone (j ∷ []) v.claimed mine.2) (subst (λ (x : Numbered). slice_get more x.place ≡ Some x.job) (sym first) (get_last gone j)))
          (λ i u other a. let theirs = (fits i u a).0 in (theirs.0, theirs.1, issued_longer gone (j ∷ []) u.claimed theirs.2)))
          (only_set views port v w at refl (λ i u a. (fits i u a).1))),
    )

pub takes : (port : ℕ) (v : View) → Takes IsRuled port v 1 (λ xs w. w ≡ record v { claimed = v.claimed ++ xs })
takes port v [] items views least most h at = absurd (omega arith)
takes port v (e ∷ []) items views least most h at =
    (record v { claimed = v.claimed ++ e ∷ [] }, takes_one port v e items views h.0 h.1 h.2 h.3 h.4 at, refl)
takes port v (e ∷ f ∷ xs) items views least most h at = absurd (omega arith)

pub finds : (port : ℕ) (v : View) → Finds IsRuled port v (MayBeEmpty v)
finds port v views h at = (views, port, h, at)

pub finds_few : (few port : ℕ) (v : View) → few ≡ 0 → FindsFew IsRuled few port v (MayBeEmpty v)
finds_few few port v none [] views short h at = (views, port, h, at)
finds_few few port v none (e ∷ items) views short h at = absurd (omega arith)

each_snoc : (F : ℕ → View → Type 0) (views : List View) (u : View) (port : ℕ) (v : View) → get_elem? views port ≡ some v → Each F views → ((j : ℕ) → j ≢ 0 → F j u) → Each F (views ++ u ∷ [])
each_snoc F [] u port v at each fresh j y e = absurd (some-ne-none v (sym at))
each_snoc F (x ∷ xs) u port v at each fresh zero y e = each zero y e
each_snoc F (x ∷ xs) u port v at each fresh (suc j) y e =
    ⊎_elim (λ old. each (suc j) y old) (λ same. subst (F (suc j)) same (fresh (suc j) (λ z. absurd (omega arith)))) (at_snoc (x ∷ xs) u y (suc j) e)

total_snoc : (f : View → ℕ) (views : List View) (u : View) → total f (views ++ u ∷ []) ≡ total f views + f u
total_snoc f [] u = omega arith
total_snoc f (x ∷ xs) u = omega (arith, total_snoc f xs u)

times_append : (p : ℕ) (xs ys : List Numbered) → times p (places (xs ++ ys)) ≡ times p (places xs) + times p (places ys)
times_append p [] ys = omega arith
times_append p (x ∷ xs) ys = omega (arith, times_append p xs ys)

issued_append : (gone : List Job) (xs ys : List Numbered) → AreIssued gone xs → AreIssued gone ys → AreIssued gone (xs ++ ys)
issued_append gone [] ys h k = k
issued_append gone (x ∷ xs) ys h k = (h.0, issued_append gone xs ys h.1 k)

pub forks : (port : ℕ) (v : View) → Forks IsRuled port v (record v { shared = true }) (knows [] [])
forks port v items views h at =
    let gone = h.0 in
    let left = h.1 in
    let split : View = record v { shared = true } in
    let none : View = knows [] [] in
    let vs : List View = set views port split in
    let here : get_elem? vs port ≡ some split = set_here views port split (in_list views port v at) in
    let fits : Each (Fits gone (gone ++ left)) vs =
    each_set (Fits gone (gone ++ left)) views port split (h.4 port v at).0 (λ j u _ e. (h.4 j u e).0) in
    let shared : Each (λ _ u. u.shared ≡ true) vs = each_set (λ _ u. u.shared ≡ true) views port split refl (λ j u other e. is_shared u.shared
    (λ lone. let one = (h.4 j u e).1 lone in other (at_first views u u j one e ∙ sym (at_first views u v port one at)))) in (
      gone,
      left,
      h.2,
      (λ p.
          let a = total_set (λ u. times p (places u.claimed)) views port v split at in
          let b = total_snoc (λ u. times p (places u.claimed)) vs none in
          omega (arith, a, b, h.3 p)),
      both_each (Fits gone (gone ++ left)) (vs ++ none ∷ [])
          (each_snoc (Fits gone (gone ++ left)) vs none port split here fits (λ j no. ((λ z. absurd (no z)), (λ _. refl), tt)))
          (λ j u e lone.
          absurd (true≢false (sym (each_snoc (λ _ u. u.shared ≡ true) vs none port split here shared (λ _ _. refl) j u e) ∙ lone))),
    )
  where
    is_shared : (b : Bool) → (b ≡ false → ⊥) → b ≡ true
    is_shared true never = refl
    is_shared false never = absurd (never refl)

pub merges : (v : View) (other : ℕ) (w : View) → Merges IsRuled 0 v other w (record v { claimed = v.claimed ++ w.claimed }) (knows [] [])
merges v other w items views h at two at' =
    let gone = h.0 in
    let left = h.1 in
    let both : View = record v { claimed = v.claimed ++ w.claimed } in
    let none : View = knows [] [] in
    let vs : List View = set views 0 both in
    let was : get_elem? views other ≡ some w = ⊎_elim (λ x. absurd (two x.0)) (λ x. x.1) (at_set views 0 other both w at') in
    let mine = (h.4 0 v at).0 in
    let theirs = (h.4 other w was).0 in
    let now : Each (Fits gone (gone ++ left)) vs =
    each_set (Fits gone (gone ++ left)) views 0 both (mine.0, mine.1, issued_append gone v.claimed w.claimed mine.2 theirs.2) (λ j u _ e. (h.4 j u e).0) in
    let only = only_set views 0 v both at refl (λ j u e. (h.4 j u e).1) in (
      gone,
      left,
      h.2,
      (λ p.
          let a = total_set (λ u. times p (places u.claimed)) views 0 v both at in
          let b = total_set (λ u. times p (places u.claimed)) vs other w none at' in
          omega (arith, a, b, h.3 p, times_append p v.claimed w.claimed)),
      both_each (Fits gone (gone ++ left)) (set vs other none)
          (each_set (Fits gone (gone ++ left)) vs other none ((λ z. absurd (two z)), (λ _. refl), tt) (λ j u _ e. now j u e))
          (each_set (λ _ u. Only (set vs other none) u) vs other none (λ lone. absurd (true≢false lone))
          (λ j u _ e lone. absurd (two (at_first vs u w other (only j u e lone) at')))),
    )

pub pushed_job : (v : View) (place : ℕ) (job : Job) → place ≡ length v.issued
    → Pushes IsRuled 0 v (numbered place job ∷ []) (λ w. w ≡ record v { issued = v.issued ++ map (λ (e : Numbered). e.job) (numbered place job ∷ []) })
pushed_job v place job is = pushes v place job is

-- a number below k once, and no other
below_at_most : (p k : ℕ) → (once_below p k ≤ 1) × (k ≤ p → once_below p k ≡ 0)
below_at_most p zero = (omega arith, λ _. refl)
below_at_most p (suc k) = go (below_at_most p k) (k == p) refl
  where
    go : (once_below p k ≤ 1) × (k ≤ p → once_below p k ≡ 0) → (b : Bool) → (k == p) ≡ b → (once_below p k + (if b then 1 else 0) ≤ 1) × (suc k ≤ p → once_below p k + (if b then 1 else 0) ≡ 0)
    go before true is = let e : k ≡ p = eqb-true k p is in (omega (arith, before.1 (omega arith)), λ lt. absurd (omega arith))
    go before false is = (omega (arith, before.0), λ lt. omega (arith, before.1 (omega arith)))

pub claimed_once : (items : List Numbered) (views : List View) → IsRuled items views → (p : ℕ) → total (λ v. times p (places v.claimed)) views ≤ 1
claimed_once items views h p = let a = h.3 p in omega (arith, a, (below_at_most p (length h.0)).0)

-- of an empty queue the only pass has claimed each job that it issued, once
pub claimed_alone : (own : View) → MayBeEmpty own → own.shared ≡ false
    → (p : ℕ) → times p (places own.claimed) ≡ once_below p (length own.issued)
claimed_alone own (views, port, h, at) lone p =
    let fits = h.4 port own at in
    let one = fits.1 lone in
    let none = none_left (length h.0) h.1 h.2 in
    let all : own.issued ≡ h.0 = fits.0.0 (at_first views own own port one at) ∙ ap (λ js. h.0 ++ js) none ∙ append-nil h.0 in
    let count : total (λ v. times p (places v.claimed)) (own ∷ []) ≡ once_below p (length h.0) = rw one at h.3 p in
    rw all (omega (arith, count))
  where
    none_left : (k : ℕ) (js : List Job) → [] ≡ numbered_from k js → js ≡ []
    none_left k [] is = refl
    none_left k (j ∷ js) is = absurd (omega (arith, ap length is))

-- ---- what is claimed was issued

among_issued : (gone : List Job) (entry : Numbered) (es : List Numbered) → AreIssued gone es → IsOneOf entry es → slice_get gone entry.place ≡ Some entry.job
among_issued gone entry [] all one = absurd one
among_issued gone entry (e ∷ es) all one = elim one [
  | inl same ↦ subst (λ (x : Numbered). slice_get gone x.place ≡ Some x.job) (sym same) all.0
  | inr rest ↦ among_issued gone entry es all.1 rest
]

any_issued : (gone : List Job) (entry : Numbered) (views : List View) → ((port : ℕ) (v : View) → get_elem? views port ≡ some v → AreIssued gone v.claimed) → IsClaimed entry views
    → slice_get gone entry.place ≡ Some entry.job
any_issued gone entry [] each one = absurd one
any_issued gone entry (v ∷ views) each one = elim one [
  | inl here ↦ among_issued gone entry v.claimed (each 0 v refl) here
  | inr later ↦ any_issued gone entry views (λ port u at. each (suc port) u at) later
]

pub claimed_is_issued : (items : List Numbered) (views : List View) → IsRuled items views → (entry : Numbered) → IsClaimed entry views
    → slice_get (issued_to views) entry.place ≡ Some entry.job
claimed_is_issued items [] h entry claimed = absurd claimed
claimed_is_issued items (v ∷ views) h entry claimed =
    let found = any_issued h.0 entry (v ∷ views) (λ port u at. (h.4 port u at).0.2) claimed in
    ap (λ js. slice_get js entry.place) ((h.4 0 v refl).0.0 refl) ∙ get_longer h.0 h.1 entry.place entry.job found
