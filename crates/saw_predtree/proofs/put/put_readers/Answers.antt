use Rattle.std.proofs.Common.{◌∷◌, [], take}
use Rattle.saw_predtree.proofs.Putting.{next-key, readers-both}
use Rattle.saw_predtree.proofs.put.put_readers.Goals as goal

pub loop-key-preserved : goal.loop-key-preserved
loop-key-preserved c = record {
  puts = rw (next-key c.args.keys.now c.loop-key.key-index c.key-item.result c.loop-key-test.true c.key-item.is)
      (readers-both c.args.places.now c.loop-key.places c.put_reader.new.places c.args.index (take c.loop-key.key-index c.args.keys.now) (c.key-item.result ∷ []) c.args.written.now
      c.loop-key.invariant.puts c.in_ok-put_reader.ensures.puts);
  marks = λ marked. c.in_ok-put_reader.ensures.marks (c.loop-key.invariant.marks marked);
}
