-- Of batches that go to deterministic processors the results are serial, where no processor failed.
use Rattle.std.proofs.Common.{ℕ, [], Ok, Err, refl}
use Rattle.saw_context.proofs.Coming.{from_told}
use Rattle.saw_crew.specs.declared.fault.CrewFault.TheVariants.{PeerFailed, OutOfMemory}
use Rattle.saw_crew.specs.Laws.{ToldIsRunSerially}

module _ {R : Type 0} (faults : R → ℕ) where
  -- the results of a call with the clauses of `execute`
  pub told_is_run : ToldIsRunSerially faults
  told_is_run processors m batches old new (Ok results) told may cause none = from_told processors [] m batches results.batches told may
  told_is_run processors m batches old new (Err PeerFailed) told may cause none = none (cause refl)
  told_is_run processors m batches old new (Err OutOfMemory) told may cause none = tt
