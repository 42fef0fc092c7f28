-- What a proof that is accepted says of a map, and which proofs are.
use Rattle.std.specs.Prelude.{◌≡◌, ◌≢◌, ◌⊎◌, ⊤, ℕ, true, List, [], ◌∷◌, map, None, Some, Result, Ok, Err}
use Rattle.std.specs.List.{AllByRecursion}
use Rattle.std.specs.FinMap as finite
use Rattle.saw_address.specs.Maps.{StateMap, AreAddresses, is_address, value_at}
use Rattle.saw_node.specs.Nodes.{Shape, IsNode, encoding_of}
use Rattle.saw_node.specs.Trees.{IsNodeOf, root_of_map}
use Rattle.saw_runs.specs.Paths.{path_of}
use Rattle.saw_proofs.specs.Checking.{IsChecked, found_in}
use Rattle.saw_proofs.specs.declared.fault.ProofFault.{ProofFault}
use Rattle.saw_proofs.specs.declared.found.Found.{Found}
use Rattle.saw_proofs.specs.declared.found.Found.TheVariants.{Present, Absent}

abbrev pub IsOneOf : List ℕ → List (List ℕ) → Type 0
IsOneOf bytes [] = ⊥
IsOneOf bytes (other ∷ others) = (bytes ≡ other) ⊎ IsOneOf bytes others

-- two different nodes of equal hash, one of the proof and one of the map
pub record ClashWith (hash : List ℕ → List ℕ) (proof : List (List ℕ)) (m : StateMap) : Type 0 where
  pub given : Shape
  pub kept : Shape
  pub of_proof : IsOneOf (encoding_of given) proof
  pub of_map : IsNodeOf hash (finite.entries m) kept
  pub differ : given ≢ kept
  pub alike : hash (encoding_of given) ≡ hash (encoding_of kept)

-- what was found is the map's
abbrev pub Holds : StateMap → List ℕ → Result Found ProofFault → Type 0
Holds m address (Ok (Present value)) = value_at m address ≡ Some value
Holds m address (Ok Absent) = value_at m address ≡ None
Holds m address (Err fault) = ⊤

-- what a proof shows under a root is so in each map of the root, or its nodes and the map's contain a hash collision
abbrev pub CheckedEntriesAre : (List ℕ → List ℕ) → Type 0
CheckedEntriesAre hash = (root address : List ℕ) (proof : List (List ℕ)) (answer : Result Found ProofFault) (m : StateMap)
    → is_address address ≡ true → AreAddresses (finite.entries m) → root_of_map hash m ≡ root
    → IsChecked hash root address proof answer → Holds m address answer ⊎ ClashWith hash proof m

-- the encodings of a map's path show, under its root, what the map has
abbrev pub ToldProofsAreGood : (List ℕ → List ℕ) → Type 0
ToldProofsAreGood hash = (m : StateMap) (address : List ℕ) (answer : Result Found ProofFault)
    → is_address address ≡ true → AreAddresses (finite.entries m) → AllByRecursion IsNode (path_of hash (finite.entries m) address)
    → IsChecked hash (root_of_map hash m) address (map encoding_of (path_of hash (finite.entries m) address)) answer
    → answer ≡ Ok (found_in (value_at m address))
