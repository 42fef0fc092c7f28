use Rattle.std.proofs.Common.{length, sym, ap, ◌∙◌}
use Rattle.std.specs.Arc.{arc_value}
use Rattle.std.proofs.lemmas.List.{length-map}
use Rattle.std.proofs.lemmas.Result.{on_ok_weaker}
use Rattle.saw_messages.specs.TxShapes.{BatchShape}
use Rattle.saw_publish.proofs.Putting.{put_in, put_out}
use Rattle.saw_publish.proofs.sift.Sifted.put.Goals as goal

pub returns-then-not-finds_room : goal.returns-then-not-finds_room
returns-then-not-finds_room c =
    let count = c.len-transactions.ensures ∙ sym (length-map c.read.inside.txs arc_value) ∙ ap (λ (shape : BatchShape). length shape.txs) c.read.view_is in
    on_ok_weaker c.push.result (λ pushed. put_out c.args.read c.args.encoding c.len-transactions.result c.len-bytes.result c.args.self.now
    c.push.new.self count c.len-bytes.ensures pushed (sym c.finds_room.ensures ∙ c.if-not-finds_room.true)) c.push.ensures.ok

pub returns : goal.returns
returns c =
    let count = c.len-transactions.ensures ∙ sym (length-map c.read.inside.txs arc_value) ∙ ap (λ (shape : BatchShape). length shape.txs) c.read.view_is in
    on_ok_weaker c.push-4.result (λ written. put_in c.args.read c.args.encoding c.len-transactions.result c.len-bytes.result c.args.self.now
    c.push-2.new.self count c.len-bytes.ensures c.push-3.new.self c.push-4.new.self c.in_ok-push.ensures.ok c.in_ok-push-2.ensures.ok written
    (sym c.finds_room.ensures ∙ c.if-not-finds_room.false)) c.push-4.ensures.ok
