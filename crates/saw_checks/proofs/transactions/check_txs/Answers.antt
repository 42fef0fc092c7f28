use Rattle.std.proofs.Common.{◌≡◌, ◌++◌, ◌∷◌, [], map, take}
use Rattle.std.specs.Arc.{arc_value}
use Rattle.std.proofs.lemmas.List.{map_push}
use Rattle.saw_checks.specs.BatchFaults.{ids_of}
use Rattle.saw_checks.proofs.TxRuns.{are_more, ids_more, goes_on}
use Rattle.saw_checks.proofs.transactions.check_txs.Goals as goal

pub loop-t-preserved : goal.loop-t-preserved
loop-t-preserved g c =
    let i = c.loop-t.invariant in
    let txs = c.args.txs.now in
    let t = c.loop-t.t in
    let tx = c.index-txs-t.result in
    let here = c.index-txs-t.is in
    let reads = c.loop-t.reads in
    let ids = ids_of (take t txs) in
    let read = c.in_ok-read.read in
    let gives = c.in_ok-read.ensures.gives ids i.holds in
    let shown : map arc_value c.push.new.self ≡ map arc_value reads ++ read ∷ [] = rw (c.in_ok-push.ensures.ok, map_push, c.in_ok-new.ensures.ok) in
    record {
      read = rw shown (are_more txs t tx c.loop-t-test.true here (map arc_value reads) read i.read gives.1);
      holds = rw (← ids_more txs t tx c.loop-t-test.true here) (c.in_ok-read.ensures.holds ids i.holds);
      so_far = goes_on txs t tx c.loop-t-test.true here (g.V.Verifier.accepts c.args.verifier.now) c.args.signer.now i.so_far gives.0;
    }
