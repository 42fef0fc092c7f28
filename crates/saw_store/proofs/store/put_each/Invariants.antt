use Rattle.std.proofs.Common.{◌≤◌, length}
use Rattle.std.specs.HashMap.{spare}
use Rattle.saw_store.proofs.Putting.{Leads}
use Rattle.saw_store.proofs.store.put_each.Given as goal

-- there is room for what is left, and with it all are kept
abbrev pub invariant-loop-new : goal.invariant-loop-new
invariant-loop-new l = record {
  room : length l.new-iterator.rest.items ≤ spare l.nodes;
  leads : Leads l.initial.nodes.entries l.nodes.entries l.fn.news.items l.new-iterator.rest.items;
}
