use Rattle.std.proofs.Common.{sym, ◌∙◌}
use Rattle.saw_identity.proofs.Rulings.{permitted_before, tells_of}
use Rattle.saw_identity.proofs.permissions.Permissions.judge_known.Goals as goal

pub returns-then-has-clause-told : goal.returns-then-has-clause-told
returns-then-has-clause-told c = λ m holds.
    permitted_before m c.args.t c.args.tx.now c.in-Some.known.now (c.in-Some.ensures m holds) (sym c.has.ensures ∙ c.if-has.true)

pub returns-clause-told : goal.returns-clause-told
returns-clause-told c = λ m holds.
    let own = (c.in-Some.ensures m holds).own in
    tells_of m c.args.t c.args.tx.now c.in_ok-noted.field-0 c.told.result c.told.ensures (c.in_ok-noted.ensures.same ∙ c.in_ok-found.ensures m holds own)

pub returns-clause-ok : goal.returns-clause-ok
returns-clause-ok c = λ m holds. c.in_ok-noted.ensures.ok m c.args.t holds (c.in_ok-found.ensures m holds (c.in-Some.ensures m holds).own)
