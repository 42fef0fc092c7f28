-- What a proof shows of an address under a root, and its first fault.
use Rattle.std.specs.Prelude.{◌≡◌, ◌≢◌, ◌⊎◌, ⊤, ◌+◌, ℕ, Bool, true, false, ◌||◌, not, cond, nat_lt, List, [], ◌∷◌, get_or, Option, Some, None, is_some, Result, Ok, Err}
use Rattle.saw_node.specs.Contents.{Node}
use Rattle.saw_node.specs.Nodes.{Shape, IsNode, encoding_of, shape_of}
use Rattle.saw_runs.specs.Tables.{at_byte}
use Rattle.saw_proofs.specs.declared.fault.ProofFault.{ProofFault}
use Rattle.saw_proofs.specs.declared.fault.ProofFault.TheVariants.{Empty, Hash, Form, Long, Short}
use Rattle.saw_proofs.specs.declared.fault.ProofFault.TheVariants as faults
use Rattle.saw_proofs.specs.declared.found.Found.{Found}
use Rattle.saw_proofs.specs.declared.found.Found.TheVariants.{Present, Absent}

-- the hash that a node at a depth names for the address's next byte; at the leaves there is none
abbrev pub next_of : Shape → List ℕ → ℕ → Option (List ℕ)
next_of shape address depth = cond (nat_lt depth 35) (at_byte (get_or address depth 0) shape.children) None

abbrev pub has_some : {A : Type 0} → List A → Bool
has_some [] = false
has_some (x ∷ xs) = true

-- a node above the leaves has a value, or one at their depth has a child or no value
abbrev pub is_misshapen : Shape → ℕ → Bool
is_misshapen shape depth = cond (nat_lt depth 35) (is_some shape.value) (has_some shape.children || not (is_some shape.value))

-- what the last node of a way shows
abbrev pub found_in : Option (List ℕ) → Found
found_in None = Absent
found_in (Some value) = Present value

-- the answer at a node of the right hash, by where it leads and whether a node follows
abbrev pub Leads : ℕ → Bool → Option (List ℕ) → Option (List ℕ) → List (List ℕ) → (List ℕ → Type 0) → Result Found ProofFault → Type 0
Leads depth true next value rest Further answer = answer ≡ Err (faults.Shape depth)
Leads depth false None value [] Further answer = answer ≡ Ok (found_in value)
Leads depth false (Some due) value [] Further answer = answer ≡ Err Short
Leads depth false None value (bytes ∷ rest) Further answer = answer ≡ Err (Long depth)
Leads depth false (Some due) value (bytes ∷ rest) Further answer = Further due

module _ (hash : List ℕ → List ℕ) (address : List ℕ) where
  -- the answer to the rest of a proof from a depth on, where the node there is to have this hash
  abbrev pub IsJudged : ℕ → List ℕ → List (List ℕ) → Result Found ProofFault → Type 0
  IsJudged depth due [] answer = ⊥
  IsJudged depth due (bytes ∷ rest) answer =
      ((hash bytes ≢ due) × (answer ≡ Err (Hash depth)))
      ⊎ ((hash bytes ≡ due) × ((shape : Shape) → IsNode shape → encoding_of shape ≡ bytes → ⊥) × (answer ≡ Err (Form depth)))
      ⊎ ((hash bytes ≡ due) × ((shape : Shape) × IsNode shape × (encoding_of shape ≡ bytes)
      × Leads depth (is_misshapen shape depth) (next_of shape address depth) shape.value rest (λ next. IsJudged (depth + 1) next rest answer) answer))

-- the bytes have the hash that is due, and are this node's encoding
pub record IsRead (hash : List ℕ → List ℕ) (due bytes : List ℕ) (node : Node) : Type 0 where
  pub alike : hash bytes ≡ due
  pub is : IsNode (shape_of node)
  pub encoding : encoding_of (shape_of node) ≡ bytes

-- they have not, or are no node's encoding
abbrev pub IsUnread : (List ℕ → List ℕ) → ℕ → List ℕ → List ℕ → ProofFault → Type 0
IsUnread hash depth due bytes (Hash index) = (index ≡ depth) × (hash bytes ≢ due)
IsUnread hash depth due bytes (Form index) =
    (index ≡ depth) × (hash bytes ≡ due) × ((shape : Shape) → IsNode shape → encoding_of shape ≡ bytes → ⊥)
IsUnread hash depth due bytes Empty = ⊥
IsUnread hash depth due bytes (faults.Shape index) = ⊥
IsUnread hash depth due bytes (Long index) = ⊥
IsUnread hash depth due bytes Short = ⊥
IsUnread hash depth due bytes faults.OutOfMemory = ⊤

-- the answer to a proof: what its last node shows, or its first fault
abbrev pub IsChecked : (List ℕ → List ℕ) → List ℕ → List ℕ → List (List ℕ) → Result Found ProofFault → Type 0
IsChecked hash root address [] answer = answer ≡ Err Empty
IsChecked hash root address (bytes ∷ rest) answer = IsJudged hash address 0 root (bytes ∷ rest) answer
