-- Lists that are put together in the order of lanes.
use Rattle.std.proofs.Common.{◌≡◌, ◌+◌, ◌<◌, inl, inr, ℕ, suc, zero, Bool, true, false, List, [], ◌∷◌, ◌++◌, length, set, get_or, take, refl, sym, ap, subst, ◌∙◌, arith}
use Rattle.std.specs.Prelude.{◌==◌, if◌then◌else◌, Option, None, Some, IfSome}
use Rattle.std.proofs.lemmas.Bool.{cases_eq, eq-eqb, ne_eqb}
use Rattle.std.proofs.lemmas.List.{append_assoc, get_or_default, get_or-set_same, get_or-set_other, length-append, take_more}
use Rattle.saw_context.specs.Lanes.{in_lane}
use Rattle.saw_lanes.specs.Lanes.{part_at}
use Rattle.saw_lanes.specs.Rests.{AreSpent, Takes}

-- each lane's items so far, and behind them what is left of its part, are its part
pub record Gathers {A : Type 0} (parts : List (List A)) (lanes : List ℕ) (made : List A) (rests : List (List A)) : Type 0 where
  pub count : length lanes ≡ length made
  pub whole : (lane : ℕ) → in_lane lane lanes made ++ part_at rests lane ≡ part_at parts lane

-- ---- parts by their places

-- the part at a place, where nothing stands for what is not there
part_at-get_or : {A : Type 0} (parts : List (List A)) (lane : ℕ) → part_at parts lane ≡ get_or parts lane []
part_at-get_or [] lane = refl
part_at-get_or (part ∷ parts) zero = refl
part_at-get_or (part ∷ parts) (suc lane) = part_at-get_or parts lane

-- a part without its first item
takes_first : {A : Type 0} (parts : List (List A)) (lane : ℕ) (first : List A) (item : A) (rest : List A) → lane < length parts
    → first ≡ get_or parts lane first → first ≡ item ∷ rest → Takes parts lane item (set parts lane rest)
takes_first parts lane first item rest inside is has =
    record {
      here = part_at-get_or parts lane ∙ get_or_default parts lane [] first inside ∙ sym is ∙ has ∙ ap (λ left. item ∷ left)
          (sym (part_at-get_or (set parts lane rest) lane ∙ get_or-set_same parts lane rest [] inside));
      others = λ other apart. part_at-get_or (set parts lane rest) other ∙ get_or-set_other parts lane other rest [] apart
          ∙ sym (part_at-get_or parts other);
    }

-- the same, where there was an item
pub takes_some : {A : Type 0} (parts : List (List A)) (lane : ℕ) (first : List A) (rest : List A) (found : Option A) → lane < length parts
    → first ≡ get_or parts lane first → IfSome found (λ item. first ≡ item ∷ rest)
    → IfSome found (λ item. Takes parts lane item (set parts lane rest))
takes_some parts lane first rest None inside is has = has
takes_some parts lane first rest (Some item) inside is has = takes_first parts lane first item rest inside is has

-- one more part with nothing in it
spent_more : {A : Type 0} (rests : List (List A)) (rest : List A) → rest ≡ [] → AreSpent rests → AreSpent (rests ++ rest ∷ [])
spent_more [] rest none spent zero = none
spent_more [] rest none spent (suc lane) = refl
spent_more (first ∷ rests) rest none spent zero = spent zero
spent_more (first ∷ rests) rest none spent (suc lane) = spent_more rests rest none (λ k. spent (suc k)) lane

-- the next part has nothing in it
pub spent_next : {A : Type 0} (rests : List (List A)) (place : ℕ) (rest : List A) → place < length rests → rest ≡ get_or rests place rest
    → rest ≡ [] → AreSpent (take place rests) → AreSpent (take (place + 1) rests)
spent_next rests place rest inside is none spent =
    subst AreSpent (sym (take_more rests place rest inside)) (spent_more (take place rests) (get_or rests place rest) (sym is ∙ none) spent)

-- ---- items by their lanes

-- a list that may have one more in front, and what stands behind it
if-append : {A : Type 0} (is : Bool) (item : A) (whole front behind : List A) → whole ≡ front ++ behind
    → (if is then item ∷ whole else whole) ≡ (if is then item ∷ front else front) ++ behind
if-append true item whole front behind same = ap (λ items. item ∷ items) same
if-append false item whole front behind same = same

-- the items of a lane, with one more at the end
in_lane-push : {A : Type 0} (lane : ℕ) (lanes : List ℕ) (its : ℕ) (made : List A) (item : A) → length lanes ≡ length made
    → in_lane lane (lanes ++ its ∷ []) (made ++ item ∷ []) ≡ in_lane lane lanes made ++ (if its == lane then item ∷ [] else [])
in_lane-push lane [] its [] item count = refl
in_lane-push lane [] its (first ∷ made) item count = absurd (omega (arith, count))
in_lane-push lane (of_first ∷ lanes) its [] item count = absurd (omega (arith, count))
in_lane-push lane (of_first ∷ lanes) its (first ∷ made) item count =
    if-append (of_first == lane) first _ _ _ (in_lane-push lane lanes its made item (omega (arith, count)))

-- one more item is taken
gathers_more : {A : Type 0} (parts : List (List A)) (lanes : List ℕ) (made : List A) (old new : List (List A)) (its : ℕ) (item : A)
    → Gathers parts lanes made old → Takes old its item new → Gathers parts (lanes ++ its ∷ []) (made ++ item ∷ []) new
gathers_more parts lanes made old new its item so_far takes =
    record {
      count = length-append lanes (its ∷ []) ∙ ap (λ n. n + 1) so_far.count ∙ sym (length-append made (item ∷ []));
      whole = λ lane. ap (λ items. items ++ part_at new lane) (in_lane-push lane lanes its made item so_far.count)
          ∙ append_assoc (in_lane lane lanes made) (if its == lane then item ∷ [] else []) (part_at new lane)
          ∙ ap (λ items. in_lane lane lanes made ++ items) (taken lane) ∙ so_far.whole lane;
    } where
      taken : (lane : ℕ) → (if its == lane then item ∷ [] else []) ++ part_at new lane ≡ part_at old lane
      taken lane = elim (cases_eq its lane) [
        | inl here ↦ rw (eq-eqb its lane here) (ap (λ k. item ∷ part_at new k) (sym here) ∙ sym takes.here ∙ ap (λ k. part_at old k) here)
        | inr other ↦ rw (ne_eqb its lane other) (takes.others lane (λ same. other (sym same)))
      ]

-- the item of the next place is taken
pub gathers_next : {A : Type 0} (parts : List (List A)) (lanes : List ℕ) (place : ℕ) (made : List A) (old new : List (List A)) (item : A)
    → place < length lanes → Gathers parts (take place lanes) made old → Takes old (get_or lanes place 0) item new
    → Gathers parts (take (place + 1) lanes) (made ++ item ∷ []) new
gathers_next parts lanes place made old new item inside so_far takes =
    subst (λ told. Gathers parts told (made ++ item ∷ []) new) (sym (take_more lanes place 0 inside))
    (gathers_more parts (take place lanes) made old new (get_or lanes place 0) item so_far takes)
