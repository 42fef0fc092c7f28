-- So many readers came so far, and none was served.
use Rattle.std.proofs.Common.{◌≡◌, length}
use Rattle.std.specs.Prelude.{All}
use Rattle.saw_live.specs.declared.reader.ReaderEnd.TheVariants.{Open}
use Rattle.saw_net.proofs.readers.accept_readers.Given as goal

abbrev pub invariant-loop : goal.invariant-loop
invariant-loop g l = (length l.readers.items ≡ l.counter) × All (λ reader. reader.end ≡ Open) l.readers.items
