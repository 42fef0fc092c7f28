use Rattle.std.proofs.Common.{ℕ, List, [], ◌∷◌, sym, subst}
use Rattle.std.proofs.lemmas.Result.{err_from_is_err_and}
use Rattle.saw_link.specs.LinkConversation.{ObeysAfter}
use Rattle.saw_link.specs.declared.passed.Passed.TheVariants.{Sent, Received}
use Rattle.saw_link.specs.Tells.{Adds}
use Rattle.saw_link.proofs.LinkRuns.{adds_two, obeys_after}
use Rattle.saw_link.proofs.Stops.{unreceived_unasked, unsent_unasked}
use Rattle.saw_link.proofs.moves.ask.Goals as goal

pub returns-in_err-send-clause-unasked : goal.returns-in_err-send-clause-unasked
returns-in_err-send-clause-unasked g c =
    let L = g.L.Link in
    let p = err_from_is_err_and c.from_residual.result c.from_residual.ensures.1 in
    rw (p.1, p.2) (unsent_unasked c.in_err-send.field-0.0 (L.told c.args.link.now) c.args.limit c.args.sent.now (L.told c.send.new.link)
    c.in_err-send.ensures.unsent)

pub returns-in_err-frame-clause-unasked : goal.returns-in_err-frame-clause-unasked
returns-in_err-frame-clause-unasked g c =
    let L = g.L.Link in
    let p = err_from_is_err_and c.from_residual-in_err-frame.result c.from_residual-in_err-frame.ensures.1 in
    rw (p.1, p.2) (unreceived_unasked c.in_err-frame.field-0.0 (L.told c.args.link.now) (L.told c.send.new.link) c.args.limit c.args.sent.now
    (L.told c.receive.new.link) c.in_ok-send.ensures.ok c.in_ok-send.ensures.within c.in_err-frame.ensures.unreceived)

pub returns-clause-adds : goal.returns-clause-adds
returns-clause-adds g c =
    let L = g.L.Link in
    let P : List ℕ → Type 0 = λ frame. Adds (L.told c.args.link.now) (Sent c.args.sent.now ∷ Received frame ∷ []) (L.told c.receive.new.link) in
    subst P (sym c.from_vec.ensures) (adds_two (L.told c.args.link.now) (L.told c.send.new.link) (L.told c.receive.new.link)
    (Sent c.args.sent.now ∷ []) (Received c.in_ok-frame.frame.items ∷ []) c.in_ok-send.ensures.ok c.in_ok-frame.ensures.ok)

pub returns-clause-obeys : goal.returns-clause-obeys
returns-clause-obeys g c tells =
    let L = g.L.Link in
    let P : List ℕ → Type 0 = λ frame. ObeysAfter L.next (L.told c.args.link.now) c.args.sent.now frame in
    subst P (sym c.from_vec.ensures) (obeys_after L.next (L.told c.args.link.now) (L.told c.send.new.link) c.args.sent.now c.in_ok-frame.frame.items
    c.in_ok-send.ensures.ok (c.in_ok-frame.ensures.obeys tells))
