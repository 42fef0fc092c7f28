-- A kid is put into the list by its byte.
use Rattle.std.proofs.Common.{◌≡◌, ℕ, zero, suc, ◌-◌, ◌<◌, true, false, cond, List, [], ◌∷◌, ◌++◌, length, map, take, drop, nat_eq, refl, sym, ap, ◌∙◌, arith, Option, Some, None}
use Rattle.std.specs.List.{AllByRecursion, insert}
use Rattle.std.proofs.lemmas.Bool.{lt-ltb}
use Rattle.std.proofs.lemmas.List.{map-append, length-take-le}
use Rattle.std.proofs.lemmas.List.Edits.{insert-append_right}
use Rattle.saw_runs.proofs.Tabled.{not_below}
use Rattle.saw_runs.specs.Lowers.{IsFrom, IsPlaceOf, behind, kid_pair}
use Rattle.saw_runs.specs.Tables.{in_front, replaced}
use Rattle.saw_runs.specs.declared.lowers.Lower.{Lower}
use Rattle.saw_runs.specs.declared.lowers.Kid.{Kid}

module _ (b : ℕ) (o : Option Lower) where
  replaced_first : (kids : List Kid) → IsFrom b kids → replaced b o (map kid_pair kids) ≡ in_front b o (map kid_pair (behind b kids))
  replaced_first [] from = refl
  replaced_first (kid ∷ kids) from =
      ap (λ t. cond t (kid_pair kid ∷ replaced b o (map kid_pair kids)) (in_front b o (cond (nat_eq kid.byte b) (map kid_pair kids) (kid_pair kid ∷ map kid_pair kids))))
      (not_below kid.byte b from)
      ∙ elim (nat_eq kid.byte b) as (λ t. in_front b o (cond t (map kid_pair kids) (kid_pair kid ∷ map kid_pair kids)) ≡ in_front b o (map kid_pair (cond t kids (kid ∷ kids)))) [
        | true ↦ refl
        | false ↦ refl
      ]

  pub replaced_parts : (kids : List Kid) (at : ℕ) → AllByRecursion (λ kid. kid.byte < b) (take at kids) → IsFrom b (drop at kids)
      → replaced b o (map kid_pair kids) ≡ map kid_pair (take at kids) ++ in_front b o (map kid_pair (behind b (drop at kids)))
  replaced_parts kids zero low high = replaced_first kids high
  replaced_parts [] (suc at) low high = refl
  replaced_parts (kid ∷ kids) (suc at) low high =
      ap (λ t. cond t (kid_pair kid ∷ replaced b o (map kid_pair kids)) (in_front b o (cond (nat_eq kid.byte b) (map kid_pair kids) (kid_pair kid ∷ map kid_pair kids))))
      (lt-ltb kid.byte b low.0)
      ∙ ap (λ xs. kid_pair kid ∷ xs) (replaced_parts kids at low.1 high)

-- put in
pub put_some : (b : ℕ) (lower : Lower) (kids mid new : List Kid) (at : ℕ) (kid : Kid) → IsPlaceOf b kids at → mid ≡ take at kids ++ behind b (drop at kids)
    → new ≡ insert mid at kid → kid_pair kid ≡ (b, lower) → map kid_pair new ≡ replaced b (Some lower) (map kid_pair kids)
put_some b lower kids mid new at kid place is put one =
    let size : length (take at kids) ≡ at = length-take-le at kids place.within in
    let rest = behind b (drop at kids) in
    let zero_left : (xs : List Kid) → insert xs (at - at) kid ≡ kid ∷ xs = λ xs. ap (λ n. insert xs n kid) none_left in
    let whole : new ≡ take at kids ++ kid ∷ rest = put ∙ ap (λ xs. insert xs at kid) is ∙ insert-append_right (take at kids) rest at at kid size (omega arith)
    ∙ ap (λ xs. take at kids ++ xs) (zero_left rest) in
    ap (map kid_pair) whole ∙ map-append kid_pair (take at kids) (kid ∷ rest) ∙ ap (λ p. map kid_pair (take at kids) ++ p ∷ map kid_pair rest) one
    ∙ sym (replaced_parts b (Some lower) kids at place.low place.high)
  where
    none_left : at - at ≡ 0
    none_left = omega arith

-- taken out
pub put_none : (b : ℕ) (kids mid : List Kid) (at : ℕ) → IsPlaceOf b kids at → mid ≡ take at kids ++ behind b (drop at kids)
    → map kid_pair mid ≡ replaced b None (map kid_pair kids)
put_none b kids mid at place is =
    ap (map kid_pair) is ∙ map-append kid_pair (take at kids) (behind b (drop at kids)) ∙ sym (replaced_parts b None kids at place.low place.high)
