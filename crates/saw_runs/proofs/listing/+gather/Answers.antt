use Rattle.std.proofs.Common.{◌≡◌, ◌++◌, map, subst, arith, OnOk}
use Rattle.std.specs.Prelude.{IfSome}
use Rattle.saw_runs.specs.Below.{IsDown, listed_as}
use Rattle.saw_runs.specs.Readings.{read_at}
use Rattle.saw_runs.proofs.Descending.{all_gathered, leaf_entry}
use Rattle.saw_runs.proofs.listing.+gather.Goals as goal

pub returns-then-at-eq35 : goal.returns-then-at-eq35
returns-then-at-eq35 g t c =
    let down : IsDown 0 c.in-Some.at = subst (λ o. IfSome o (IsDown 0)) c.in-Some.is c.requires in
    subst (λ es. OnOk c.gather_value.result (map listed_as c.gather_value.new.listed.items ≡ map listed_as c.args.listed.now.items ++ es))
    (leaf_entry (read_at c.args.tables.now) c.args.at c.in-Some.at c.in-Some.is c.if-at-eq35.true down.whole) c.gather_value.ensures

pub returns : goal.returns
returns g t c =
    let down : IsDown 0 c.in-Some.at = subst (λ o. IfSome o (IsDown 0)) c.in-Some.is c.requires in
    let within = down.within in
    let above = c.if-at-eq35.false in
    all_gathered (read_at c.args.tables.now) c.args.at c.in-Some.at c.children_read-child-items.result.now c.loop-child.child-index
    (map listed_as c.args.listed.now.items) (map listed_as c.loop-child.listed.items) c.in-Some.is (omega (arith, within, above))
    c.children_read-child-items.ensures.same c.loop-child-test.false c.loop-child.invariant
