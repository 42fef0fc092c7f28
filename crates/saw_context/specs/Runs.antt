-- What stands at addresses, by runs of marks, the newest first: the first run that marks an address decides.
use Rattle.std.specs.Prelude.{ℕ, List, [], ◌∷◌, map, Option, Some, None, option_map, unwrap_or}
use Rattle.std.specs.Arc.{arc_value}
use Rattle.std.specs.BTreeMap.{get}
use Rattle.std.specs.FinMap as finite
use Rattle.std.specs.Map.{update_all}
use Rattle.std.specs.Str.{bytes_eq}
use Rattle.std.specs.Global.{Global}
use Rattle.std.specs.Ordering.{nat_cmp}
use Rattle.std.specs.Cmp.Lexicographic.{slice_cmp}
use Rattle.std.specs.declared.sync.Arc.{Arc}
use Rattle.saw_context.specs.declared.layers.ViewMark.{ViewMark}
use Rattle.saw_context.specs.declared.layers.Run.{Run}
use Rattle.saw_context.specs.declared.view.ViewEntry.{ViewEntry}

-- what stands at addresses
abbrev pub Standing : Type 0
Standing = finite.FinMap (slice_cmp nat_cmp) ViewEntry

-- addresses, each with what stands there, or that nothing does
abbrev pub Marks : Type 0
Marks = List (List ℕ × Option ViewEntry)

-- what a mark says
abbrev pub entry_of : Arc ViewMark Global → Option ViewEntry
entry_of mark = (arc_value mark).entry

-- what entries of a run mark
abbrev pub marks_of : List (List ℕ × Arc ViewMark Global) → Marks
marks_of entries = map (λ (mark : List ℕ × Arc ViewMark Global). (mark.0, entry_of mark.1)) entries

-- what is there with this at an address
abbrev pub marked : Standing → List ℕ → Option ViewEntry → Standing
marked below at None = finite.remove below at
marked below at (Some entry) = finite.insert below at entry

-- what is there with marks on top; of two of one address the first counts
abbrev pub marked_by : Standing → Marks → Standing
marked_by below [] = below
marked_by below (mark ∷ marks) = marked (marked_by below marks) mark.0 mark.1

-- what runs leave, each over the older ones
abbrev pub layers_in : List Run → Standing
layers_in [] = finite.empty
layers_in (run ∷ runs) = marked_by (layers_in runs) (marks_of run.marks.entries)

abbrev pub runs_of : List (Arc Run Global) → List Run
runs_of runs = map (λ (run : Arc Run Global). arc_value run) runs

-- what a run has at an address; outermost `None` where it marks nothing there
abbrev pub mark_in : Run → List ℕ → Option (Option ViewEntry)
mark_in run at = option_map entry_of (get (slice_cmp nat_cmp) run.marks at)

-- what stands at an address by the first run that marks it
abbrev pub shown_in : List Run → List ℕ → Option ViewEntry
shown_in [] at = None
shown_in (run ∷ runs) at = unwrap_or (mark_in run at) (shown_in runs at)

-- the last of marks at an address; outermost `None` where none is there
abbrev pub last_of : Marks → List ℕ → Option (Option ViewEntry)
last_of marks at = update_all bytes_eq (λ q. None) marks at
