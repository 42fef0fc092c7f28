use Rattle.std.proofs.Common.{◌≡◌}
use Rattle.crossbeam_utils.specs.Seq.{cell_view}
use Rattle.saw_live.specs.Heads.{StartsWith}
use Rattle.saw_live.specs.Passes.{IsSame}
use Rattle.saw_live.proofs.live.Live.ask.Given as goal

abbrev pub invariant-loop : goal.invariant-loop
invariant-loop g l = record {
  cell : l.pass.pass.table_id ≡ l.initial.pass.pass.table_id;
  later : StartsWith (cell_view l.pass.pass).seen (cell_view l.initial.pass.pass).seen;
  same : IsSame l.initial.pass l.pass;
}
