use Rattle.std.proofs.Common.{◌≡◌, ℕ, true, false, List, ◌∷◌, Option, Some, refl, sym, ap, ◌∙◌}
use Rattle.std.specs.BTreeMap.{is_at}
use Rattle.std.specs.Cmp.Lexicographic.{slice_cmp, texts_ties}
use Rattle.std.specs.Map.{lookup}
use Rattle.std.specs.Ordering.{nat_cmp}
use Rattle.std.specs.Str.{bytes_eq}
use Rattle.saw_io.proofs.files.file_of.Goals as goal

abbrev sought : {V : Type 0} → List ℕ → List (List ℕ × V) → Option V
sought name = lookup (is_at (slice_cmp nat_cmp name))

module _ {V : Type 0} (name one : List ℕ) (file : V) (others : List (List ℕ × V)) where
  found : bytes_eq name one ≡ true → sought name ((one, file) ∷ others) ≡ Some file
  found same = rw (sym (texts_ties name one) ∙ same) refl

  passed : bytes_eq name one ≡ false → sought name ((one, file) ∷ others) ≡ sought name others
  passed other = rw (sym (texts_ties name one) ∙ other) refl

pub loop-one-init : goal.loop-one-init
loop-one-init c = ap (sought c.args.name.now) (c.into_iter-one-iterator.ensures.into_iter_gives ∙ c.iter-one-items.ensures.rest)

pub returns-then-eq : goal.returns-then-eq
returns-then-eq c =
    sym (found c.args.name.now c.in-Some.one.now c.in-Some.file.now c.next.new.self (ap (bytes_eq c.args.name.now) (sym c.as_str.ensures) ∙ sym c.if-eq.ensures))
    ∙ ap (sought c.args.name.now) (sym c.in-Some.ensures.steps)
    ∙ c.loop-one.invariant

pub loop-one-preserved : goal.loop-one-preserved
loop-one-preserved c =
    sym (passed c.args.name.now c.in-Some.one.now c.in-Some.file.now c.next.new.self (ap (bytes_eq c.args.name.now) (sym c.as_str.ensures) ∙ sym c.if-eq.ensures))
    ∙ ap (sought c.args.name.now) (sym c.in-Some.ensures.steps)
    ∙ c.loop-one.invariant

pub returns : goal.returns
returns c = ap (sought c.args.name.now) (sym c.in-None.ensures.steps.0) ∙ c.loop-one.invariant
