use Rattle.std.proofs.Common.{length, ap, ◌∙◌}
use Rattle.std.proofs.lemmas.List.{length-map}
use Rattle.saw_messages.specs.TxShapes.{shape_in}
use Rattle.saw_publish.specs.Candidates.{Signing}
use Rattle.saw_generate.specs.Signed.{batch_at}
use Rattle.saw_generate.proofs.Batching.{count_more, ids_more, messages_more, reads_more}
use Rattle.saw_generate.proofs.batches.batches_at.Goals as goal

pub loop-k-preserved : goal.loop-k-preserved
loop-k-preserved g c =
    let signing : Signing = record { key = g.G.Signer.key_text c.args.signer.now; signature = g.G.Signer.signature c.args.signer.now } in
    let i = c.loop-k.invariant in
    let made = c.in_ok-made.made in
    let all = c.loop-k.all in
    let new = c.put.new.self in
    let here = batch_at signing c.args.wish.now c.args.b in (
      messages_more here c.loop-k.k all.messages new.messages made.message c.in_ok-put.ensures.messages c.in_ok-made.ensures.message i.0,
      reads_more all.reads new.reads made.read all.messages new.messages made.message c.in_ok-put.ensures.reads c.in_ok-put.ensures.messages
          c.in_ok-made.ensures.read i.1,
      ids_more all.ids new.ids all.messages new.messages made.message c.in_ok-put.ensures.ids c.in_ok-put.ensures.messages i.2,
      count_more c.loop-k.k all.reads new.reads made.read c.in_ok-put.ensures.reads
          (ap (λ txs. length txs) c.in_ok-made.ensures.read ∙ length-map made.message.transactions shape_in ∙ ap (λ batch. length batch.transactions) c.in_ok-made.ensures.message) i.3,
      c.in_ok-made.ensures.draws,
    )
