use Rattle.std.proofs.Common.{◌≡◌, Option, subst}
use Rattle.std.specs.Prelude.{IfOk}
use Rattle.saw_messages.specs.declared.talk.Reply.{Reply}
use Rattle.saw_tpside.specs.ProcessorConversation.{replied}
use Rattle.saw_tpside.specs.declared.serving.Serving.{Serving}
use Rattle.saw_tpside.proofs.exchange.take_reply.Goals as goal

pub returns : goal.returns
returns c =
    let P : Option Reply → Type 0 = λ reply. IfOk c.replied.result (λ (next : Option Serving). next ≡ replied c.args.left c.args.held reply) in
    subst P c.in_ok-reply.ensures c.replied.ensures
