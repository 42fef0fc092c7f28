use Rattle.std.proofs.Common.{ap, sym, ◌∙◌, ◌&&◌}
use Rattle.saw_events.proofs.Filters.{passes-all, passes-none, passes-one}
use Rattle.saw_events.proofs.filter.passes.Goals as goal

pub returns-then-some_has_key : goal.returns-then-some_has_key
returns-then-some_has_key c =
    ap (λ some. some && c.all_are.result) (sym c.if-some_has_key.true)
    ∙ passes-all c.args.wanted.now c.args.event.now _ c.as_slice-attributes.ensures _ _ c.if-wanted.true c.some_has_key.ensures c.all_are.ensures

pub returns-else-some_has_key : goal.returns-else-some_has_key
returns-else-some_has_key c =
    passes-none c.args.wanted.now c.args.event.now _ c.as_slice-attributes.ensures _ c.if-wanted.true c.some_has_key.ensures c.if-some_has_key.false

pub returns-else-wanted : goal.returns-else-wanted
returns-else-wanted c =
    passes-one c.args.wanted.now c.args.event.now _ c.as_slice-attributes.ensures _ c.if-wanted.false c.some_is.ensures
