-- The ends of the outside at one moment: what each tells, and how often it has failed.
use Rattle.std.specs.Prelude.{◌≡◌, ◌⊎◌, ◌≤◌, ℕ, List, [], ◌∷◌, ◌++◌, map, Option, option_map}
use Rattle.std.specs.List.{filter_map}
use Rattle.std.specs.Io.KnownBytes.{Appends}
use Rattle.saw_faults.specs.Counts.{Rose}
use Rattle.saw_io.specs.Shelf.{Files}
use Rattle.saw_io.specs.declared.source.Source as source
use Rattle.saw_io.specs.declared.sink.Sink as sink
use Rattle.saw_io.specs.declared.shelf.Shelf as shelf
use Rattle.saw_station.specs.DeskPlaces.{Place}
use Rattle.saw_top.specs.declared.task.Lines.{Lines}
use Rattle.saw_top.specs.declared.task.Lines.TheVariants.{All, Refused}

-- one end
pub record End (A : Type 0) : Type 0 where
  pub tells : Option A
  pub faults : ℕ

abbrev pub source_end : {S : Type 0} → source.Ghosts S → S → End (List ℕ)
source_end s input = record { tells = s.unread input; faults = s.faults input }

abbrev pub sink_end : {K : Type 0} → sink.Ghosts K → K → End (List ℕ)
sink_end k output = record { tells = k.written output; faults = k.faults output }

abbrev pub shelf_end : {F : Type 0} → shelf.Ghosts F → F → End Files
shelf_end f held = record { tells = f.files held; faults = f.faults held }

-- how often each external processor has failed
abbrev pub counts_of : {R : Type 0} → (R → ℕ) → List (Place R) → List ℕ
counts_of faults desks = filter_map (λ desk. option_map faults desk.remote) desks

-- all ends: what is unread, what was written, the files, and the external processors
pub record Outside : Type 0 where
  pub input : End (List ℕ)
  pub output : End (List ℕ)
  pub notes : End (List ℕ)
  pub shelf : End Files
  pub remotes : List ℕ

module _ {S O N : Type 0} (s : source.Ghosts S) (o : sink.Ghosts O) (n : sink.Ghosts N) where
  abbrev pub outside_with : S → O → N → End Files → List ℕ → Outside
  outside_with input output notes held remotes =
      record { input = source_end s input; output = sink_end o output; notes = sink_end n notes; shelf = held; remotes = remotes }

  -- with these external processors
  abbrev pub outside : {F R : Type 0} → shelf.Ghosts F → (R → ℕ) → S → O → N → F → List R → Outside
  outside f faults input output notes held remotes = outside_with input output notes (shelf_end f held) (map faults remotes)

-- the count of one of them rose
abbrev pub SomeRose : List ℕ → List ℕ → Type 0
SomeRose (old ∷ olds) (new ∷ news) = Rose old new ⊎ SomeRose olds news
SomeRose _ _ = ⊥

-- there are as many, and the count of none fell
abbrev pub AreLater : List ℕ → List ℕ → Type 0
AreLater [] [] = Unit {0}
AreLater (old ∷ olds) (new ∷ news) = (old ≤ new) × AreLater olds news
AreLater _ _ = ⊥

-- a call failed
abbrev pub SomeFailed : Outside → Outside → Type 0
SomeFailed before after =
    Rose before.input.faults after.input.faults ⊎ (Rose before.output.faults after.output.faults
    ⊎ (Rose before.notes.faults after.notes.faults ⊎ (Rose before.shelf.faults after.shelf.faults
    ⊎ SomeRose before.remotes after.remotes)))

-- ---- output and notes

-- what both tell before and after
pub record Sides : Type 0 where
  pub old : Option (List ℕ)
  pub new : Option (List ℕ)
  pub told_old : Option (List ℕ)
  pub told_new : Option (List ℕ)

abbrev pub sides : Option (List ℕ) → Option (List ℕ) → Option (List ℕ) → Option (List ℕ) → Sides
sides old new told_old told_new = record { old = old; new = new; told_old = told_old; told_new = told_new }

abbrev pub sides_of : Outside → Outside → Sides
sides_of before after = sides before.output.tells after.output.tells before.notes.tells after.notes.tells

-- a prefix of a text was written
abbrev pub WritesFront : List ℕ → Option (List ℕ) → Option (List ℕ) → Type 0
WritesFront text old new = (written : List ℕ) × (more : List ℕ) × (text ≡ written ++ more) × Appends old new written

-- ---- where the lines of blocks go

-- the side that has them, and the other
abbrev pub lines_side : Lines → Outside → End (List ℕ)
lines_side All outside = outside.output
lines_side Refused outside = outside.notes

abbrev pub other_side : Lines → Outside → End (List ℕ)
other_side All outside = outside.notes
other_side Refused outside = outside.output
