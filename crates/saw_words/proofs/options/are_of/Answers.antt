use Rattle.std.proofs.Common.{inl, inr, refl, ◌∙◌}
use Rattle.saw_words.specs.Given.{options_in}
use Rattle.saw_words.proofs.Firsts.{are_more}
use Rattle.saw_words.proofs.options.are_of.Goals as goal

pub returns-then-not-is_known : goal.returns-then-not-is_known
returns-then-not-is_known c =
    let first = c.in-Some.first in
    let more = are_more first.name.now first.value.now c.args.names.now (options_in first.rest.now) c.value_of.result c.value_of.ensures in
    rw (c.loop-first.invariant, c.in-Some.ensures.0, more, ← c.contains-is_known.ensures.value, ← c.is_some-is_again.ensures) (elim c.then-not-is_known.either [
      | inl unknown ↦ rw unknown refl
      | inr again ↦ rw (again.0, again.1) refl
    ])

pub loop-first-preserved : goal.loop-first-preserved
loop-first-preserved c =
    let first = c.in-Some.first in
    let more = are_more first.name.now first.value.now c.args.names.now (options_in first.rest.now) c.value_of.result c.value_of.ensures in
    c.loop-first.invariant ∙ rw (
      c.in-Some.ensures.0,
      more,
      ← c.contains-is_known.ensures.value,
      ← c.is_some-is_again.ensures,
      c.if-not-is_known.false,
      c.if-is_again.false,
    ) refl
