use Rattle.std.proofs.Common.{◌≡◌, ◌-◌, suc, sym, arith}
use Rattle.saw_schedule.specs.Shown.{is_held_at}
use Rattle.saw_schedule.proofs.Lefts.{at-end, no-end}
use Rattle.saw_schedule.proofs.refresh.held_in.Goals as goal

pub returns-then-end-eq0 : goal.returns-then-end-eq0
returns-then-end-eq0 c =
    sym (no-end (is_held_at c.args.steps.now c.args.slots.now) c.args.lefts.now c.held_end-end.result c.held_end-end.ensures c.if-end-eq0.true)

pub returns : goal.returns
returns c =
    let test = is_held_at c.args.steps.now c.args.slots.now in
    let end = c.held_end-end.result in
    let e : end ≡ suc (end - 1) = (let some = c.if-end-eq0.false in omega (arith, some)) in
    sym (at-end test c.args.lefts.now end c.held_end-end.ensures (end - 1) _ e)
