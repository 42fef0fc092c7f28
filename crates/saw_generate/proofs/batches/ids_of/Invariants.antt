use Rattle.std.proofs.Common.{◌≡◌, map, take}
use Rattle.saw_generate.proofs.batches.ids_of.Given as goal

abbrev pub invariant-loop-message : goal.invariant-loop-message
invariant-loop-message l = l.ids ≡ map (λ tx. tx.header_signature) (take l.message-index l.messages)
