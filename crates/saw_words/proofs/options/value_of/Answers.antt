use Rattle.std.proofs.Common.{Some, rules, refl}
use Rattle.saw_words.proofs.Firsts.{value_here, value_later}
use Rattle.saw_words.specs.Given.{options_in}
use Rattle.saw_words.proofs.options.value_of.Goals as goal

pub returns-then-eq : goal.returns-then-eq
returns-then-eq c =
    let first = c.in-Some.first in
    c.loop-first.invariant (Some first.value) (rw c.in-Some.ensures.0
    (value_here c.args.name.now first.name.now first.value.now (options_in first.rest.now) first.value (search rules) refl))

pub loop-first-preserved : goal.loop-first-preserved
loop-first-preserved c value later =
    let first = c.in-Some.first in
    c.loop-first.invariant value (rw c.in-Some.ensures.0 (value_later c.args.name.now first.name.now first.value.now (options_in first.rest.now) value
    (search rules) later))
