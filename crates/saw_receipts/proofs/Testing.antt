-- Whether two values of a type with a code are one.
use base.Stored.{Gv, gnil, gnum, gcons}
use Rattle.std.proofs.Common.{◌≡◌, Bool, true, false, refl, ap, ap₂}
use Rattle.std.specs.Prelude.{◌==◌, ◌&&◌}
use Rattle.std.specs.Coded.{Coded}
use Rattle.std.proofs.lemmas.Bool.{and_from, and_parts, eq-eqb, eqb-true}

same_code : Gv → Gv → Bool
same_code gnil gnil = true
same_code gnil (gnum n) = false
same_code gnil (gcons a b) = false
same_code (gnum m) gnil = false
same_code (gnum m) (gnum n) = m == n
same_code (gnum m) (gcons a b) = false
same_code (gcons a b) gnil = false
same_code (gcons a b) (gnum n) = false
same_code (gcons a b) (gcons c d) = same_code a c && same_code b d

same_itself : (a : Gv) → same_code a a ≡ true
unfolding same_code
same_itself gnil = refl
same_itself (gnum n) = eq-eqb n n refl
same_itself (gcons a b) = and_from (same_code a a) (same_code b b) (same_itself a) (same_itself b)

same_is : (a b : Gv) → same_code a b ≡ true → a ≡ b
unfolding same_code
same_is gnil gnil same = refl
same_is gnil (gnum n) same = absurd cc
same_is gnil (gcons a b) same = absurd cc
same_is (gnum m) gnil same = absurd cc
same_is (gnum m) (gnum n) same = ap gnum (eqb-true m n same)
same_is (gnum m) (gcons a b) same = absurd cc
same_is (gcons a b) gnil same = absurd cc
same_is (gcons a b) (gnum n) same = absurd cc
same_is (gcons a b) (gcons c d) same =
    let parts = and_parts (same_code a c) (same_code b d) same in ap₂ gcons (same_is a c parts.0) (same_is b d parts.1)

module _ {A : Type 0} (coded : Coded A) where
  -- whether two are one, by their codes
  pub are_one : A → A → Bool
  are_one x y = same_code (coded.code x) (coded.code y)

  -- each is one with itself
  pub one_itself : (x : A) → are_one x x ≡ true
  unfolding are_one
  one_itself x = same_itself (coded.code x)

  -- what tests as one is one
  pub one_is : (x y : A) → are_one x y ≡ true → x ≡ y
  unfolding are_one
  one_is x y same = coded.inj x y (same_is (coded.code x) (coded.code y) same)
