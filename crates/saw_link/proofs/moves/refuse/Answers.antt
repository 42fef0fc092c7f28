use Rattle.std.proofs.Common.{refl}
use Rattle.saw_messages.specs.declared.talk.Reply.TheVariants.{Unauthorized}
use Rattle.saw_link.proofs.Steps.{ok_map, refuses_moved}
use Rattle.saw_link.proofs.Stops.{err_map, sent_answers, unclosed_troubled}
use Rattle.saw_link.proofs.moves.refuse.Goals as goal

pub returns-clause-moved : goal.returns-clause-moved
returns-clause-moved g c =
    let said = c.in_ok-said in
    let s = c.args.standing.now in
    let L = g.L.Link in
    ok_map c.take_refused.result (λ legal waits.
    refuses_moved (L.told c.args.link.now) (L.told c.answer_asked.new.link) s c.take_refused.new.standing _ _ said.said.frame _ said.said.heard
    refl said.ensures.heard said.ensures.adds said.ensures.within c.in-Some.asked c.in-Some.is refl refl legal waits)
    c.take_refused.ensures.closed

pub returns-clause-troubled : goal.returns-clause-troubled
returns-clause-troubled g c =
    let said = c.in_ok-said in
    let s = c.args.standing.now in
    let L = g.L.Link in
    err_map c.take_refused.result (unclosed_troubled (L.told c.args.link.now) (L.told c.answer_asked.new.link) s _ said.said.frame said.said.heard
    (sent_answers s c.in-Some.asked (Unauthorized 0) _ c.in-Some.is refl) said.ensures.heard said.ensures.adds)
    c.take_refused.ensures.unclosed
