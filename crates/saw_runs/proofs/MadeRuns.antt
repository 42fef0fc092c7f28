-- The runs that are made among kids, one after another.
use Rattle.std.proofs.Common.{◌≡◌, ℕ, zero, suc, ◌+◌, ◌<◌, List, [], ◌∷◌, ◌++◌, length, map, take, get_or, arith, refl, sym, ap, ◌∙◌}
use Rattle.std.proofs.lemmas.Grind.{flat_map-append}
use Rattle.std.proofs.lemmas.List.{append-nil, get_or-map, length-append, length-map, map-append, take_more}
use Rattle.saw_runs.specs.Lowers.{lower_hash, made_among, made_in, top_of}
use Rattle.saw_runs.specs.declared.lowers.Kid.{Kid}
use Rattle.saw_runs.specs.declared.lowers.Lower.{Lower}
use Rattle.saw_runs.specs.declared.lowers.Lower.TheVariants.{Held, Made}
use Rattle.saw_runs.specs.declared.run.Run.{Run}

-- so many runs are made among the first kids
abbrev pub made_before : List Kid → ℕ → ℕ
made_before kids k = length (made_among (take k kids))

-- the run at a place among all is at this place
pub record IsAt (runs : List Run) (place : ℕ) (run : Run) : Type 0 where
  pub within : place < length runs
  pub is : get_or runs place run ≡ run

behind : (lower : Lower) (runs : List Run) (place : ℕ) (run : Run) → IsAt runs place run
    → IsAt (made_in lower ++ runs) (length (made_in lower) + place) run
behind (Held h) runs place run at =
    let on : 0 + place ≡ place = omega arith in record { within = omega (arith, at.within); is = ap (λ n. get_or runs n run) on ∙ at.is }
behind (Made one) runs place run at =
    let on : 1 + place ≡ suc place = omega arith in record { within = omega (arith, at.within); is = ap (λ n. get_or (one ∷ runs) n run) on ∙ at.is }

first : (lower : Lower) (runs : List Run) (run : Run) → lower ≡ Made run → IsAt (made_in lower ++ runs) 0 run
first lower runs run e = rw e (record { within = omega arith; is = refl })

-- the run of a kid is the next one behind those before
pub made_at : (kids : List Kid) (k : ℕ) (kid : Kid) (run : Run) → kid ≡ get_or kids k kid → k < length kids → kid.lower ≡ Made run
    → IsAt (made_among kids) (made_before kids k) run
made_at [] k kid run is lt e = absurd (omega (arith, lt))
made_at (one ∷ kids) zero kid run is lt e =
    first one.lower (made_among kids) run (ap (λ (kid : Kid). kid.lower) (sym is) ∙ e)
made_at (one ∷ kids) (suc k) kid run is lt e =
    rw (length-append (made_in one.lower) (made_among (take k kids)))
    (behind one.lower (made_among kids) (made_before kids k) run (made_at kids k kid run is (omega (arith, lt)) e))

-- with one kid more
made_more : (kids : List Kid) (k : ℕ) (kid : Kid) → kid ≡ get_or kids k kid → k < length kids
    → made_before kids (k + 1) ≡ made_before kids k + length (made_in kid.lower)
made_more kids k kid is lt =
    ap (λ (some : List Kid). length (made_among some)) (take_more kids k kid lt ∙ ap (λ (one : Kid). take k kids ++ one ∷ []) (sym is))
    ∙ ap length (flat_map-append (λ (kid : Kid). made_in kid.lower) (take k kids) (kid ∷ []) ∙ ap (λ (runs : List Run). made_among (take k kids) ++ runs) (append-nil (made_in kid.lower)))
    ∙ length-append (made_among (take k kids)) (made_in kid.lower)

pub made_none : (kids : List Kid) (k : ℕ) (kid : Kid) (h : List ℕ) → kid ≡ get_or kids k kid → k < length kids → kid.lower ≡ Held h
    → made_before kids k ≡ made_before kids (k + 1)
made_none kids k kid h is lt held =
    let size : length (made_in kid.lower) ≡ 0 = ap (λ lower. length (made_in lower)) held in omega (arith, made_more kids k kid is lt, size)

pub made_one : (kids : List Kid) (k : ℕ) (kid : Kid) (run : Run) → kid ≡ get_or kids k kid → k < length kids → kid.lower ≡ Made run
    → made_before kids k + 1 ≡ made_before kids (k + 1)
made_one kids k kid run is lt made =
    let size : length (made_in kid.lower) ≡ 1 = ap (λ lower. length (made_in lower)) made in omega (arith, made_more kids k kid is lt, size)

map_two : {R A : Type 0} (now : R → Run) (f : Run → A) (runs : List R) → map (λ r. f (now r)) runs ≡ map f (map now runs)
map_two now f [] = refl
map_two now f (r ∷ runs) = ap (λ rest. f (now r) ∷ rest) (map_two now f runs)

module _ {R : Type 0} (now : R → Run) (hash : List ℕ → List ℕ) (kids : List Kid) (runs : List R) (tops : List (List ℕ))
    (are : map now runs ≡ made_among kids) (told : tops ≡ map (λ r. top_of hash (now r)) runs) (k : ℕ) (kid : Kid) (run : Run)
    (is : kid ≡ get_or kids k kid) (lt : k < length kids) (made : kid.lower ≡ Made run) where
  all_tops : tops ≡ map (top_of hash) (made_among kids)
  all_tops = told ∙ map_two now (top_of hash) runs ∙ ap (map (top_of hash)) are

  -- of the kid's run there is a hash at this place
  pub top_within : (at : ℕ) → at ≡ made_before kids k → at < length tops
  top_within at here =
      let place = made_at kids k kid run is lt made in
      let size : length tops ≡ length (made_among kids) = ap length all_tops ∙ length-map (made_among kids) (top_of hash) in
      omega (arith, here, size, place.within)

  pub top_is : (at : ℕ) (d : List ℕ) → at ≡ made_before kids k → get_or tops at d ≡ lower_hash hash kid.lower
  top_is at d here =
      let place = made_at kids k kid run is lt made in
      ap (λ (tops : List (List ℕ)). get_or tops at d) all_tops ∙ ap (λ n. get_or (map (top_of hash) (made_among kids)) n d) here
      ∙ get_or-map (top_of hash) (made_among kids) (made_before kids k) run d place.within
      ∙ ap (top_of hash) place.is ∙ sym (ap (lower_hash hash) made)

-- the hashes of the first kids, and one more
pub hashes_more : (hash : List ℕ → List ℕ) (kids : List Kid) (k : ℕ) (kid : Kid) (hashes : List (List ℕ)) (top : List ℕ)
    → kid ≡ get_or kids k kid → k < length kids → hashes ≡ map (λ kid. lower_hash hash kid.lower) (take k kids)
    → top ≡ lower_hash hash kid.lower → hashes ++ top ∷ [] ≡ map (λ kid. lower_hash hash kid.lower) (take (k + 1) kids)
hashes_more hash kids k kid hashes top is lt are e =
    (λ i. are i ++ e i ∷ []) ∙ sym (map-append (λ (kid : Kid). lower_hash hash kid.lower) (take k kids) (kid ∷ []))
    ∙ sym (ap (map (λ (kid : Kid). lower_hash hash kid.lower)) (take_more kids k kid lt ∙ ap (λ (one : Kid). take k kids ++ one ∷ []) (sym is)))
