use Rattle.std.proofs.Common.{◌≡◌, false, [], map}
use Rattle.std.specs.Prelude.{replicate}
use Rattle.std.specs.List.{AllByRecursion}
use Rattle.saw_address.specs.Maps.{no_entries}
use Rattle.saw_live.specs.Heads.{knows}
use Rattle.saw_live.specs.Passes.{published, view_of}
use Rattle.saw_live.specs.declared.pass.LivePass.{LivePass}
use Rattle.saw_live.proofs.live.with_readers.Given as goal

abbrev pub invariant-loop : goal.invariant-loop
invariant-loop l = record {
  first : view_of l.first ≡ view_of l.fn.first;
  tied : l.first.pass.table_id ≡ l.cell.table.shared.table_id;
  root : l.first.root ≡ l.fn.first.root;
  state : published l.first ≡ no_entries;
  views : map view_of l.all.items ≡ replicate l.counter (knows false []);
  cell : AllByRecursion (λ (pass : LivePass). pass.pass.table_id ≡ l.cell.table.shared.table_id) l.all.items;
  nothing : AllByRecursion (λ (pass : LivePass). (pass.root ≡ l.fn.first.root) × (published pass ≡ no_entries)) l.all.items;
}
