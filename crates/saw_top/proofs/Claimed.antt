-- What was written of a claim.
use Rattle.std.proofs.Common.{◌≡◌, ◌<◌, ℕ, List, length, take, drop, Option, Result, Err, inl, refl, sym, ◌∙◌}
use Rattle.std.proofs.lemmas.List.{take-append-drop}
use Rattle.std.specs.Io.KnownBytes.{Appends}
use Rattle.saw_faults.specs.Counts.{Rose}
use Rattle.saw_io.specs.declared.fault.SinkFault.{SinkFault}
use Rattle.saw_io.specs.declared.fault.SinkFault.TheVariants as sinks
use Rattle.saw_node.specs.Hashes.{first_half}
use Rattle.saw_proofs.specs.Checking.{IsChecked}
use Rattle.saw_proofs.specs.declared.fault.ProofFault.{ProofFault}
use Rattle.saw_proofs.specs.declared.found.Found.{Found}
use Rattle.saw_report.specs.RunFaults.{fault_of_sink}
use Rattle.saw_top.specs.Claims.{TellsProof, checked_line}
use Rattle.saw_top.specs.Outside.{End, WritesFront}

-- a part of a line is a prefix of it
pub front_of : (old new : Option (List ℕ)) (line text : List ℕ) → line ≡ text → (n : ℕ) × (n < length line) × Appends old new (take n line)
    → WritesFront text old new
front_of old new line text is (n, less, part) =
    (take n line, drop n line, sym is ∙ sym (take-append-drop n line), part)

pub cut_off : (root address : List ℕ) (nodes : List (List ℕ)) (before after : End (List ℕ)) (found : Result Found ProofFault)
    → IsChecked first_half root address nodes found → (e : SinkFault) → WritesFront (checked_line found) before.tells after.tells
    → (e ≡ sinks.Failed → Rose before.faults after.faults) → TellsProof root address nodes before after (Err (fault_of_sink e))
cut_off root address nodes before after found is sinks.Failed front rose = inl (found, is, (rose refl, front))
cut_off root address nodes before after found is sinks.OutOfMemory front rose = inl (found, is, front)
