use Rattle.std.proofs.Common.{◌≡◌, ◌++◌}
use Rattle.saw_runs.specs.Apart.{nodes_among, runs_among}
use Rattle.saw_runs.proofs.tables.parted.Given as goal

-- with what is left, all are taken
abbrev pub invariant-loop-new : goal.invariant-loop-new
invariant-loop-new l = record {
  nodes : l.nodes.items ++ nodes_among l.new-iterator.rest.items ≡ nodes_among l.fn.news.items;
  runs : l.runs.items ++ runs_among l.new-iterator.rest.items ≡ runs_among l.fn.news.items;
}
