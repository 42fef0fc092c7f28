-- The lines of a file with a proof.
use Rattle.std.proofs.Common.{◌≡◌, ℕ, ◌+◌, ◌-◌, ◌<◌, ◌≤◌, Bool, true, false, List, [], ◌∷◌, cond, length, map, take, get_or, Bor, Some, None, Ok, Err, refl, ap, arith, eqb, ◌==◌}
use Rattle.std.specs.List.{onto_first, position, slice_split}
use Rattle.std.proofs.lemmas.List.{length-take-le}
use Rattle.std.proofs.lemmas.List.Quantifiers.{position-Some}
use Rattle.hex.specs.Hex.{decode_of}
use Rattle.saw_report.specs.declared.run_fault.RunFault.TheVariants as runs
use Rattle.saw_top.specs.Claims.{is_bad_node, max_proof, node_in, nodes_of, proof_lines, without_feed}
use Rattle.saw_top.proofs.Fetched.{not_over, over}

one_more : (b : Bool) (x : ℕ) (parts : List (List ℕ)) (n : ℕ) → length parts ≤ n + 1 → length (cond b ([] ∷ parts) (onto_first x parts)) ≤ n + 2
one_more true x parts n few = omega (arith, few)
one_more false x [] n few = omega arith
one_more false x (part ∷ parts) n few = omega (arith, few)

few_lines : (bytes : List ℕ) → length (slice_split (λ b. eqb b 10) bytes) ≤ length bytes + 1
few_lines [] = omega arith
few_lines (byte ∷ bytes) =
    let more = one_more (eqb byte 10) byte (slice_split (λ b. eqb b 10) bytes) (length bytes) (few_lines bytes) in omega (arith, more)

-- the place of a bad line is at most the number of bytes
pub bad_within : (bytes : List ℕ) (i : ℕ) → position is_bad_node (slice_split (λ b. eqb b 10) bytes) ≡ Some i → i ≤ length bytes
bad_within bytes i found =
    let low = (position-Some is_bad_node (slice_split (λ b. eqb b 10) bytes) i [] found).0 in
    omega (arith, low, few_lines bytes)

pub feedless : (bytes : List ℕ) → length (without_feed bytes) ≤ length bytes
feedless bytes = by (get_or bytes (length bytes - 1) 0 == 10)
  where
    by : (b : Bool) → length (cond b (take (length bytes - 1) bytes) bytes) ≤ length bytes
    by true = omega (arith, length-take-le (length bytes - 1) bytes (omega arith))
    by false = omega arith

pub long_proof : (bytes : List ℕ) → max_proof < length bytes → nodes_of (Some bytes) ≡ Err runs.FileTooLong
long_proof bytes more = rw (over (length bytes) max_proof more) refl

pub all_decoded : (lines : List (Bor (List ℕ))) → map (λ line. node_in (decode_of line.now)) lines
    ≡ map (λ line. node_in (decode_of line)) (map (λ line. line.now) lines)
all_decoded [] = refl
all_decoded (line ∷ lines) = ap (λ (nodes : List (List ℕ)). node_in (decode_of line.now) ∷ nodes) (all_decoded lines)

-- the lines of bytes, if there are any
lines_are : (bytes : List ℕ) → (bytes ≡ [] → ⊥) → proof_lines bytes ≡ slice_split (λ b. eqb b 10) (without_feed bytes)
lines_are [] some = absurd (some refl)
lines_are (byte ∷ bytes) some = refl

module _ (bytes : List ℕ) (within : length bytes ≤ max_proof) (some : bytes ≡ [] → ⊥) where
  abbrev lines : List (List ℕ)
  lines = slice_split (λ b. eqb b 10) (without_feed bytes)

  pub bad_line : (i : ℕ) → position is_bad_node lines ≡ Some i → nodes_of (Some bytes) ≡ Err (runs.BadLine (i + 1))
  bad_line i found = rw (not_over (length bytes) max_proof within, lines_are bytes some, found) refl

  pub good_lines : position is_bad_node lines ≡ None → nodes_of (Some bytes) ≡ Ok (map (λ line. node_in (decode_of line)) lines)
  good_lines none =
      rw (not_over (length bytes) max_proof within, lines_are bytes some, none)
      (ap (λ (l : List (List ℕ)). Ok (map (λ line. node_in (decode_of line)) l)) (lines_are bytes some))
