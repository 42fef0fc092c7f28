use Rattle.std.proofs.Common.{ℕ, subst}
use Rattle.std.proofs.lemmas.Result.{IfOk-weaker}
use Rattle.saw_ready.specs.Edges.{AreEarlier, AreEdges}
use Rattle.saw_ready.specs.Queues.{IsNew}
use Rattle.saw_schedule.specs.Begun.{IsNewQueueOf}
use Rattle.saw_schedule.proofs.Beginning.{new-queue, starts-right}
use Rattle.saw_schedule.proofs.begun.new_queue.Goals as goal

pub new-requires-clause-edges : goal.new-requires-clause-edges
new-requires-clause-edges c =
    let s = starts-right c.args.batches.now c.args.txs.now c.in_ok-starts.starts.items c.requires.count c.in_ok-starts.ensures in
    subst (λ (n : ℕ). AreEdges c.in_ok-preds.preds n) s.0 c.in_ok-preds.ensures.edges

pub new-requires-clause-earlier : goal.new-requires-clause-earlier
new-requires-clause-earlier c =
    let s = starts-right c.args.batches.now c.args.txs.now c.in_ok-starts.starts.items c.requires.count c.in_ok-starts.ensures in
    subst (λ (n : ℕ). AreEarlier c.in_ok-preds.preds n) s.0 c.in_ok-preds.ensures.earlier

pub new-requires-clause-starts : goal.new-requires-clause-starts
new-requires-clause-starts c =
    (starts-right c.args.batches.now c.args.txs.now c.in_ok-starts.starts.items c.requires.count c.in_ok-starts.ensures).1

pub returns : goal.returns
returns c =
    IfOk-weaker c.new.result (IsNew c.in_ok-preds.preds c.in_ok-starts.starts.items) (IsNewQueueOf c.args.batches.now c.args.txs.now)
    (λ queue new. new-queue c.args.batches.now c.args.txs.now c.in_ok-preds.preds c.in_ok-starts.starts.items queue c.in_ok-starts.ensures
    c.in_ok-preds.ensures.edges c.in_ok-preds.ensures.earlier c.in_ok-preds.ensures.thin new) c.new.ensures
