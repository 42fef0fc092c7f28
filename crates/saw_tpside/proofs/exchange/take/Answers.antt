use Rattle.std.proofs.Common.{◌≡◌, Option, subst}
use Rattle.std.specs.Prelude.{IfOk}
use Rattle.saw_tpside.specs.declared.serving.Serving.{Serving}
use Rattle.saw_tpside.proofs.Taking.{taken_closed, taken_open}
use Rattle.saw_tpside.proofs.exchange.take.Goals as goal

pub returns-in_default : goal.returns-in_default
returns-in_default c =
    let P : Option Serving → Type 0 = λ came. IfOk c.take_first.result (λ (next : Option Serving). next ≡ came) in
    subst P (taken_closed c.args.serving c.args.frame.now c.in_default.is) c.take_first.ensures

pub returns : goal.returns
returns c =
    let P : Option Serving → Type 0 = λ came. IfOk c.take_reply.result (λ (next : Option Serving). next ≡ came) in
    subst P (taken_open c.args.serving c.in-Some.held c.args.frame.now c.in-Some.is) c.take_reply.ensures
