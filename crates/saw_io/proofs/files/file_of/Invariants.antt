use Rattle.std.proofs.Common.{◌≡◌}
use Rattle.std.specs.BTreeMap.{get, is_at}
use Rattle.std.specs.Cmp.Lexicographic.{slice_cmp}
use Rattle.std.specs.Map.{lookup}
use Rattle.std.specs.Ordering.{nat_cmp}
use Rattle.saw_io.proofs.files.file_of.Given as goal

-- what is sought is among the entries that are left, or nowhere
abbrev pub invariant-loop-one : goal.invariant-loop-one
invariant-loop-one l =
    lookup (is_at (slice_cmp nat_cmp l.name)) l.one-iterator ≡ get (slice_cmp nat_cmp) l.files l.name
