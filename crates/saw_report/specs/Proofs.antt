-- The lines of proofs: their nodes, and what they show.
use Rattle.std.specs.Prelude.{ℕ, List, [], ◌∷◌, ◌++◌, codes}
use Rattle.std.specs.Fmt.{decimal}
use Rattle.hex.specs.Hex.{encode_lower}
use Rattle.saw_proofs.specs.declared.fault.ProofFault.{ProofFault}
use Rattle.saw_proofs.specs.declared.fault.ProofFault.TheVariants as faults
use Rattle.saw_proofs.specs.declared.found.Found.{Found}
use Rattle.saw_proofs.specs.declared.found.Found.TheVariants.{Present, Absent}
use Rattle.saw_report.specs.Lines.{spaced}

-- a node, by its encoding
abbrev pub node_line : List ℕ → List ℕ
node_line node = encode_lower node ++ 10 ∷ []

abbrev pub found_text : Found → List ℕ
found_text Absent = codes "ABSENT"
found_text (Present value) = codes "PRESENT " ++ encode_lower value

-- what a proof shows
abbrev pub found_line : Found → List ℕ
found_line found = found_text found ++ 10 ∷ []

-- the number of a fault, and the place that it has
abbrev pub rejection_text : ProofFault → List ℕ
rejection_text faults.Empty = decimal 1
rejection_text (faults.Hash index) = decimal 2 ++ spaced index
rejection_text (faults.Form index) = decimal 3 ++ spaced index
rejection_text (faults.Shape index) = decimal 4 ++ spaced index
rejection_text (faults.Long index) = decimal 5 ++ spaced index
rejection_text faults.Short = decimal 6
rejection_text faults.OutOfMemory = []

-- a proof that is rejected
abbrev pub rejected_line : ProofFault → List ℕ
rejected_line fault = codes "REJECTED " ++ rejection_text fault ++ 10 ∷ []
