use Rattle.std.proofs.Common.{◌≡◌}
use Rattle.saw_station.specs.Families.{family_of}
use Rattle.saw_station.proofs.Rows.{from}
use Rattle.saw_station.proofs.serving.family_of.Given as goal

abbrev pub invariant-loop-one : goal.invariant-loop-one
invariant-loop-one l = from l.family l.version l.all l.one-index ≡ family_of l.family l.version
