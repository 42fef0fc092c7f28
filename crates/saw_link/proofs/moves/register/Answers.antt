use Rattle.std.proofs.Common.{◌∙◌}
use Rattle.std.proofs.lemmas.Result.{err_from_is_err_and}
use Rattle.saw_link.proofs.Steps.{ok_map_two, registers_moved}
use Rattle.saw_link.proofs.Stops.{err_map, register_unsent, unregistered_troubled}
use Rattle.saw_link.proofs.moves.register.Goals as goal

pub returns-clause-moved : goal.returns-clause-moved
returns-clause-moved g c =
    let L = g.L.Link in
    let found = c.in_ok-found in
    let sent = c.in_ok-sent in
    ok_map_two c.send.result (λ adds short.
    registers_moved (L.told c.args.link.now) (L.told c.receive.new.link) (L.told c.send.new.link) c.args.standing.now c.take_registration.new.standing
    c.in_ok-frame.frame.items c.deref.result.now c.limit_of-limit.result found.found short c.limit_of-limit.ensures found.ensures.found
    found.ensures.may sent.ensures.entered (c.deref.ensures.value ∙ sent.ensures.answer) c.in_ok-frame.ensures.ok c.requires adds)
    c.send.ensures.ok c.send.ensures.within

pub returns-in_err-found-clause-troubled : goal.returns-in_err-found-clause-troubled
returns-in_err-found-clause-troubled g c =
    let L = g.L.Link in
    let p = err_from_is_err_and c.from_residual-in_err-found.result c.from_residual-in_err-found.ensures.1 in
    rw (p.1, p.2) (unregistered_troubled (L.told c.args.link.now) (L.told c.receive.new.link) c.args.standing.now c.in_ok-frame.frame.items
    c.in_ok-frame.ensures.ok c.in_err-found.field-0.0 c.in_err-found.ensures.breach)

pub returns-clause-troubled : goal.returns-clause-troubled
returns-clause-troubled g c =
    let L = g.L.Link in
    let found = c.in_ok-found in
    let sent = c.in_ok-sent in
    err_map c.send.result (register_unsent (L.told c.args.link.now) (L.told c.receive.new.link) (L.told c.send.new.link) c.args.standing.now
    c.take_registration.new.standing c.in_ok-frame.frame.items c.deref.result.now c.limit_of-limit.result found.found c.limit_of-limit.ensures
    found.ensures.found found.ensures.may sent.ensures.entered (c.deref.ensures.value ∙ sent.ensures.answer) c.in_ok-frame.ensures.ok)
    c.send.ensures.unsent
