use Rattle.std.proofs.Common.{◌≡◌, false, length}
use Rattle.std.specs.Prelude.{All}
use Rattle.saw_net.proofs.links.accept_links.Given as goal

abbrev pub invariant-loop : goal.invariant-loop
invariant-loop g l = (length l.remotes.items ≡ l.counter) × All (λ remote. remote.begun ≡ false) l.remotes.items
