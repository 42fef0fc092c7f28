-- What stands at each prefix, as the code keeps it.
use Rattle.std.specs.Prelude.{ℕ, Bool, List, [], ◌∷◌, ◌++◌, Option, Some, None}
use Rattle.std.specs.BTreeMap.{BTreeMap, get}
use Rattle.std.specs.Cmp.Lexicographic.{slice_cmp}
use Rattle.std.specs.Ordering.{nat_cmp}
use Rattle.saw_predtree.specs.Trees.{Tree}
use Rattle.saw_predtree.specs.declared.place.Place.{Place}
use Rattle.saw_predtree.specs.declared.place.Usage.{Usage}
use Rattle.saw_predtree.specs.declared.place.Usage.TheVariants.{Reads, Writes}
use Rattle.saw_predtree.specs.declared.tree.PredecessorTree.{PredecessorTree}

abbrev pub Places : Type 0
Places = BTreeMap (List ℕ) Place

abbrev pub place_at : Places → List ℕ → Option Place
place_at places prefix = get (slice_cmp nat_cmp) places prefix

abbrev pub writer_of : Option Place → Option ℕ
writer_of None = None
writer_of (Some place) = place.writer

abbrev pub readers_of : Option Place → List ℕ
readers_of None = []
readers_of (Some place) = place.readers.items

abbrev pub writer_at : Places → List ℕ → Option ℕ
writer_at places prefix = writer_of (place_at places prefix)

abbrev pub readers_at : Places → List ℕ → List ℕ
readers_at places prefix = readers_of (place_at places prefix)

abbrev pub tree_from : Places → List Bool → List ℕ → ℕ → Bool → Tree
tree_from places lengths reaches next failed = record {
  writers = writer_at places;
  readers = readers_at places;
  lengths = lengths;
  reaches = reaches;
  next = next;
  failed = failed;
}

-- what a tree keeps
abbrev pub tree_of : PredecessorTree → Tree
tree_of tree = tree_from tree.places tree.lengths.items tree.reaches.items tree.next tree.failed

abbrev pub writer_as_list : Option ℕ → List ℕ
writer_as_list None = []
writer_as_list (Some writer) = writer ∷ []

-- whom one that reads or writes meets, where these stand
abbrev pub met_by : Usage → Option ℕ → List ℕ → List ℕ
met_by Reads writer readers = writer_as_list writer
met_by Writes writer readers = writer_as_list writer ++ readers

abbrev pub met_at : Usage → Places → List ℕ → List ℕ
met_at usage places prefix = met_by usage (writer_at places prefix) (readers_at places prefix)
