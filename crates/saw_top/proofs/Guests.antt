-- Readers that were moved into guests and back, and what each of them was told.
use Rattle.std.proofs.Common.{◌≡◌, ◌+◌, ◌-◌, ℕ, zero, suc, true, false, List, [], ◌∷◌, ◌++◌, length, get_or, drop, map, reverse, sym, ap, subst, ◌∙◌, append_assoc, arith}
use Rattle.std.specs.List.{AllByRecursion}
use Rattle.std.specs.Prelude.{All, replicate, slice_index_or}
use Rattle.std.proofs.lemmas.List.{length-map, length-replicate, map_push, reverse-append, reverse-reverse}
use Rattle.std.proofs.lemmas.List.Elements.{All-from_recursion, All-head, All-push, All-tail}
use Rattle.saw_live.proofs.Knowing.{fresh_known}
use Rattle.saw_live.specs.Heads.{StartsWith, knows}
use Rattle.saw_live.specs.Passes.{IsFresh, fresh_views, history, view_of}
use Rattle.saw_live.specs.Words.{Head, head_in}
use Rattle.saw_live.specs.declared.pass.LivePass.{LivePass}
use Rattle.saw_live.specs.declared.rule.Known.{Known}
use Rattle.saw_node.specs.Hashes.{first_half}
use Rattle.saw_top.specs.Readers.{AllEnd, AreAnsweredBy, AreNew, Asker}
use Rattle.saw_top.proofs.Counting.{first_last}

module _ {G X : Type 0} (f : G → X) where
  -- the last one comes first in reverse
  last_of : (guests : List G) (one : G) → reverse (map f (guests ++ one ∷ [])) ≡ f one ∷ reverse (map f guests)
  last_of guests one = ap reverse (map_push f guests one) ∙ reverse-append (map f guests) (f one ∷ [])

  -- one more was taken from the end of the others
  pub one_in : (all others rest : List X) (guests more : List G) (one : G) → all ≡ others ++ reverse (map f guests) → others ≡ rest ++ f one ∷ []
      → more ≡ guests ++ one ∷ [] → all ≡ rest ++ reverse (map f more)
  one_in all others rest guests more one moved taken is =
      moved ∙ ap (λ (l : List X). l ++ reverse (map f guests)) taken ∙ append_assoc rest (f one ∷ []) (reverse (map f guests))
      ∙ ap (λ (l : List X). rest ++ l) (sym (ap (λ (l : List G). reverse (map f l)) is ∙ last_of guests one))

  -- the last one was put behind the others
  pub one_out : (all others more : List X) (guests rest : List G) (one : G) → others ++ reverse (map f guests) ≡ all → guests ≡ rest ++ one ∷ []
      → more ≡ others ++ f one ∷ [] → more ++ reverse (map f rest) ≡ all
  one_out all others more guests rest one moved taken is =
      ap (λ (l : List X). l ++ reverse (map f rest)) is ∙ append_assoc others (f one ∷ []) (reverse (map f rest))
      ∙ ap (λ (l : List X). others ++ l) (sym (ap (λ (l : List G). reverse (map f l)) taken ∙ last_of rest one)) ∙ moved

-- ---- in reverse

pub all_turned : {X : Type 0} (P : X → Type 0) (xs : List X) → All P xs → All P (reverse xs)
all_turned P [] all = all
all_turned P (x ∷ xs) all =
    subst (All P) (sym (first_last x xs)) (All-push P (reverse xs) x (all_turned P xs (All-tail P x xs all)) (All-head P x xs all))

pub all_turned_back : {X : Type 0} (P : X → Type 0) (xs : List X) → All P (reverse xs) → All P xs
all_turned_back P xs all = subst (All P) (reverse-reverse xs) (all_turned P (reverse xs) all)

-- ---- what each was told

-- each was served, and saw the first of all heads
all_answered : {G X : Type 0} (reader : G → X) (of : X → Asker) (seen : G → List Head) (heads : List Head) (olds news : List G) → length news ≡ length olds
    → AllEnd (λ guest. of (reader guest)) seen olds news → All (λ guest. StartsWith heads (seen guest)) news
    → AreAnsweredBy heads (map of (map reader olds)) (map of (map reader news))
all_answered reader of seen heads [] [] count ends begins = tt
all_answered reader of seen heads [] (new ∷ news) count ends begins = let no : ⊥ = omega (arith, count) in absurd no
all_answered reader of seen heads (old ∷ olds) [] count ends begins = let no : ⊥ = omega (arith, count) in absurd no
all_answered reader of seen heads (old ∷ olds) (new ∷ news) count ends begins = (
  (seen new, All-head (λ guest. StartsWith heads (seen guest)) new news begins, ends.each 0 new (omega arith)),
  all_answered reader of seen heads olds news (omega (arith, count)) (record { each = λ i d low. ends.each (suc i) d (omega (arith, low)) })
      (All-tail (λ guest. StartsWith heads (seen guest)) new news begins),
)

pub readers_answered : {G X : Type 0} (reader : G → X) (of : X → Asker) (seen : G → List Head) (heads : List Head) (olds news : List G) (before after : List X)
    → map reader olds ≡ before → after ≡ map reader news → length news ≡ length olds → AllEnd (λ guest. of (reader guest)) seen olds news
    → All (λ guest. StartsWith heads (seen guest)) news → AreAnsweredBy heads (map of before) (map of after)
readers_answered reader of seen heads olds news before after was is count ends begins =
    subst (λ (l : List _). AreAnsweredBy heads (map of l) (map of after)) was
    (subst (λ (l : List _). AreAnsweredBy heads (map of (map reader olds)) (map of l)) (sym is)
    (all_answered reader of seen heads olds news count ends begins))

-- ---- new passes

none_seen : (m : ℕ) (passes : List LivePass) → map view_of passes ≡ replicate m (knows false []) → AllByRecursion (λ pass. history pass ≡ []) passes
none_seen m [] is = tt
none_seen zero (pass ∷ passes) is = let no : ⊥ = omega (arith, ap length is) in absurd no
none_seen (suc m) (pass ∷ passes) is = (
  ap (λ (l : List Known). map head_in (get_or l 0 (knows false [])).seen) is,
  none_seen m passes (ap (λ (l : List Known). drop 1 l) is),
)

pub as_many_passes : (n : ℕ) (passes : List LivePass) → map view_of passes ≡ fresh_views (n + 1) → length passes ≡ n + 1
as_many_passes n passes is =
    omega (arith, ap length is, length-map passes view_of, length-replicate (n + 1 - 1) (knows false []))

-- the first of them publishes
pub are_new : (Leads : LivePass → Type 0) (n : ℕ) (passes : List LivePass) (first : LivePass) (others : List LivePass)
    → map view_of passes ≡ fresh_views n → AllByRecursion Leads passes → AllByRecursion (IsFresh first_half) passes
    → first ≡ slice_index_or passes 0 first → others ≡ drop 1 passes → AreNew Leads first others
are_new Leads n [] first others is lead fresh at left = let no : ⊥ = omega (arith, ap length is) in absurd no
are_new Leads n (pass ∷ passes) first others is lead fresh at left =
    let seen : view_of pass ≡ knows true [] = ap (λ (l : List Known). get_or l 0 (knows true [])) is in
    let made : AreNew Leads pass passes = record {
      leads = lead.0;
      may = ap (λ (v : Known). v.publishes) seen;
      none = ap (λ (v : Known). map head_in v.seen) seen;
      known = fresh_known first_half pass fresh.0;
      lead = lead.1;
      fresh = none_seen (n - 1) passes (ap (λ (l : List Known). drop 1 l) is);
    } in
    subst (λ (p : LivePass). AreNew Leads p others) (sym at) (subst (AreNew Leads pass) (sym left) made)

-- what holds of each pass holds of the guests that got them
pub all_guests : {G X : Type 0} (f : G → X) (P : X → Type 0) (guests : List G) (passes : List X) → map f guests ≡ passes → AllByRecursion P passes
    → All (λ guest. P (f guest)) guests
all_guests f P guests passes is all = from (subst (AllByRecursion P) (sym is) all)
  where
    each : (guests : List _) → AllByRecursion P (map f guests) → AllByRecursion (λ guest. P (f guest)) guests
    each [] all = tt
    each (guest ∷ guests) all = (all.0, each guests all.1)

    from : AllByRecursion P (map f guests) → All (λ guest. P (f guest)) guests
    from all = All-from_recursion (λ guest. P (f guest)) guests (each guests all)
