-- What a file with a proof shows of an address under a root, and what is answered.
use Rattle.std.specs.Prelude.{◌≡◌, ◌⊎◌, ℕ, ◌+◌, ◌-◌, ◌%◌, Bool, ◌&&◌, not, List, [], ◌∷◌, map, length, take, get_or, nat_lt, ◌==◌, Option, Some, None, Result, Ok, Err, if◌then◌else◌, option_map, IfSome}
use Rattle.std.specs.List.{list_all, position, slice_split}
use Rattle.std.specs.Io.KnownBytes.{Appends}
use Rattle.hex.specs.Hex.{decode_of}
use Rattle.hex.specs.declared.error.FromHexError.{FromHexError}
use Rattle.saw_address.specs.Texts.{is_hex_digit}
use Rattle.saw_faults.specs.Counts.{Rose}
use Rattle.saw_io.specs.Shelf.{Files}
use Rattle.saw_node.specs.Hashes.{first_half}
use Rattle.saw_proofs.specs.Checking.{IsChecked}
use Rattle.saw_proofs.specs.declared.fault.ProofFault.{ProofFault}
use Rattle.saw_proofs.specs.declared.found.Found.{Found}
use Rattle.saw_report.specs.Proofs.{found_line, rejected_line}
use Rattle.saw_report.specs.declared.run_fault.RunFault.{RunFault}
use Rattle.saw_report.specs.declared.run_fault.RunFault.TheVariants.{BadLine, FileMissing, FileTooLong, Memory, Write}
use Rattle.saw_top.specs.Fetching.{ComesBy}
use Rattle.saw_top.specs.Outside.{End, WritesFront}

-- ---- the lines of a file

-- without a byte 10 at the end
abbrev pub without_feed : List ℕ → List ℕ
without_feed bytes = if get_or bytes (length bytes - 1) 0 == 10 then take (length bytes - 1) bytes else bytes

-- Each ends with a byte 10, which the last may lack. A file of no bytes has none.
abbrev pub proof_lines : List ℕ → List (List ℕ)
proof_lines [] = []
proof_lines (first ∷ others) = slice_split (λ b. b == 10) (without_feed (first ∷ others))

-- a node is an even number of hex digits, and some
abbrev pub is_node_line : List ℕ → Bool
is_node_line line = nat_lt 0 (length line) && length line % 2 == 0 && list_all is_hex_digit line

abbrev pub is_bad_node : List ℕ → Bool
is_bad_node line = not (is_node_line line)

-- the first other line, counted from 1
abbrev pub first_bad_node : List ℕ → Option ℕ
first_bad_node bytes = option_map (λ i. i + 1) (position is_bad_node (proof_lines bytes))

abbrev pub node_in : Result (List ℕ) FromHexError → List ℕ
node_in (Ok bytes) = bytes
node_in (Err e) = []

-- the nodes of the lines, unless one is bad
abbrev pub nodes_by : List ℕ → Option ℕ → Result (List (List ℕ)) RunFault
nodes_by bytes (Some line) = Err (BadLine line)
nodes_by bytes None = Ok (map (λ line. node_in (decode_of line)) (proof_lines bytes))

-- the most bytes of a file with a proof
abbrev pub max_proof : ℕ
max_proof = 67108864

-- those of a file, if there is one and it is not too long
abbrev pub nodes_of : Option (List ℕ) → Result (List (List ℕ)) RunFault
nodes_of None = Err FileMissing
nodes_of (Some bytes) = if nat_lt max_proof (length bytes) then Err FileTooLong else nodes_by bytes (first_bad_node bytes)

-- ---- the answer

-- the line of what a proof shows, or of why it is rejected
abbrev pub checked_line : Result Found ProofFault → List ℕ
checked_line (Ok found) = found_line found
checked_line (Err fault) = rejected_line fault

abbrev pub checked_status : Result Found ProofFault → ℕ
checked_status (Ok found) = 0
checked_status (Err fault) = 1

-- what was written, by what a proof shows and by how that ended
abbrev pub TellsChecked : Result Found ProofFault → End (List ℕ) → End (List ℕ) → Result ℕ RunFault → Type 0
TellsChecked found before after (Ok status) = (status ≡ checked_status found) × Appends before.tells after.tells (checked_line found)
TellsChecked found before after (Err Write) = Rose before.faults after.faults × WritesFront (checked_line found) before.tells after.tells
TellsChecked found before after (Err Memory) = WritesFront (checked_line found) before.tells after.tells
TellsChecked found before after (Err fault) = ⊥

-- what a proof that was read shows was told, or memory was refused before
abbrev pub TellsProof : List ℕ → List ℕ → List (List ℕ) → End (List ℕ) → End (List ℕ) → Result ℕ RunFault → Type 0
TellsProof root address nodes before after came =
    ((found : Result Found ProofFault) × IsChecked first_half root address nodes found × TellsChecked found before after came)
    ⊎ ((came ≡ Err Memory) × (after ≡ before))

-- ---- a claim

module _ (root address name : List ℕ) (before after : End (List ℕ)) (held later : End Files) (came : Result ℕ RunFault) where
  -- by what its file is: the proof was read, and what it shows was told; or it was not, and nothing was written
  abbrev pub ChecksBy : Result (List (List ℕ)) RunFault → Type 0
  ChecksBy right =
      ((nodes : List (List ℕ)) × (right ≡ Ok nodes) × TellsProof root address nodes before after came)
      ⊎ ((fault : RunFault) × (came ≡ Err fault) × (after ≡ before) × ComesBy (Rose held.faults later.faults) right (Err fault))

  -- what was done of it; a file that is not told is some file
  pub record Checks : Type 0 where
    pub file : Option (List ℕ)
    pub told : IfSome held.tells (λ files. files name ≡ file)
    pub by : ChecksBy (nodes_of file)
