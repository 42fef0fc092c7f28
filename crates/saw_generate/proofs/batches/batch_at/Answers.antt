use Rattle.std.proofs.Common.{◌≡◌, ◌+◌, ap, ◌∙◌}
use Rattle.saw_publish.specs.Candidates.{Signing}
use Rattle.saw_station.proofs.Finished.{if_ok}
use Rattle.saw_generate.specs.Draws.{state_after}
use Rattle.saw_generate.specs.Operations.{draws_before}
use Rattle.saw_generate.specs.Signed.{batch_at, batch_of}
use Rattle.saw_generate.proofs.Batching.{batch_is, drawn_more, two_put}
use Rattle.saw_generate.proofs.batches.batch_at.Goals as goal

pub returns-clause-message : goal.returns-clause-message
returns-clause-message g c =
    let signing : Signing = record { key = g.G.Signer.key_text c.args.signer.now; signature = g.G.Signer.signature c.args.signer.now } in
    let wish = c.args.wish.now in
    let n = draws_before wish c.args.b c.args.k in
    let p = c.draw-p.ensures wish.start n c.requires.drawn in
    let q = c.draw-q.ensures wish.start (n + 1) p.1 in
    let both = two_put c.new-both.result.messages c.put.new.self.messages c.put-2.new.self.messages c.in_ok-first_at.field-0.message
    c.in_ok-second_at.field-0.message c.new-both.ensures.messages c.in_ok-put.ensures.messages c.in_ok-put-2.ensures.messages in
    let e = batch_is signing wish c.args.b c.args.k c.draw-p.result c.draw-q.result c.put-2.new.self.messages c.in_ok-first_at.field-0.message
    c.in_ok-second_at.field-0.message both c.in_ok-first_at.ensures.message c.in_ok-second_at.ensures.message p.0 q.0 in
    if_ok (λ made. made.message ≡ batch_of signing c.put-2.new.self.messages) (λ made. made.message ≡ batch_at signing wish c.args.b c.args.k)
    (λ made is. is ∙ e) c.batch_of.result c.batch_of.ensures.message

pub returns-clause-draws : goal.returns-clause-draws
returns-clause-draws g c =
    let wish = c.args.wish.now in
    let n = draws_before wish c.args.b c.args.k in
    let p = c.draw-p.ensures wish.start n c.requires.drawn in
    let q = c.draw-q.ensures wish.start (n + 1) p.1 in
    if_ok _ (λ made. c.draw-q.new.self.state ≡ state_after wish.start (draws_before wish c.args.b (c.args.k + 1)))
    (λ made is. q.1 ∙ ap (state_after wish.start) (drawn_more wish c.args.b c.args.k)) c.batch_of.result c.batch_of.ensures.message
