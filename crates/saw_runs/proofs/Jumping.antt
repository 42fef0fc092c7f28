-- Down the bytes that two runs share, at once.
use Rattle.std.proofs.Common.{◌≡◌, ℕ, ◌+◌, List, [], ◌++◌, length, refl, sym, ap, ◌∙◌, subst, Option, Some, None}
use Rattle.saw_messages.specs.declared.outcome.Change.{Change}
use Rattle.saw_runs.specs.Below.{read_by}
use Rattle.saw_runs.specs.Differing.{AddsDifference, Differ, IsBelow, part_of}
use Rattle.saw_runs.specs.Entries.{Entry}
use Rattle.saw_runs.proofs.Between.{differ_as}
use Rattle.saw_runs.proofs.Descending.{run_end}
use Rattle.saw_runs.proofs.Local.{covers-shorter}

-- what a run leads to is read from the end of its bytes
by_end : (read : List ℕ → Option Entry) (levels left : ℕ) (place path : List ℕ) (bottom : Option (List ℕ)) → left + length path ≡ levels
    → read_by read left (place ++ path) (part_of [] bottom) ≡ read_by read levels place (part_of path bottom)
by_end read levels left place path None fits = refl
by_end read levels left place path (Some bottom) fits = sym (run_end read bottom path levels left place fits)

-- what differs there differs here
pub jump : (read : List ℕ → Option Entry) (levels left : ℕ) (place path : List ℕ) (from to : Option (List ℕ)) (first second : Option (List ℕ × List ℕ))
    (old new : List Change) → left + length path ≡ levels → part_of path from ≡ first → part_of path to ≡ second
    → AddsDifference read left (place ++ path) (part_of [] from) (part_of [] to) old new → AddsDifference read levels place first second old new
jump read levels left place path from to first second old new fits one two adds = record {
  more = adds.more;
  grown = adds.grown;
  differ = subst (λ es. Differ (IsBelow place) es (read_by read levels place second) adds.more) (by_end read levels left place path from fits ∙ ap (read_by read levels place) one)
      (subst (λ es. Differ (IsBelow place) (read_by read left (place ++ path) (part_of [] from)) es adds.more) (by_end read levels left place path to fits ∙ ap (read_by read levels place) two)
      (differ_as (IsBelow (place ++ path)) (IsBelow place) (covers-shorter place path) _ _ adds.more adds.differ));
}
