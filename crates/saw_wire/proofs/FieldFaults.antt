-- The first fault of a list of records.
use Rattle.std.proofs.Common.{◌≡◌, ℕ, zero, suc, ◌+◌, ◌<◌, ◌≤◌, ◌⊎◌, inl, inr, List, [], ◌∷◌, ◌++◌, length, take, map, get_or, Option, Some, None, Ok}
use Rattle.std.proofs.Common.{Err, refl, ◌∙◌, arith}
use Rattle.std.proofs.lemmas.List.{take_more, take_all, map_push}
use Rattle.saw_wire.specs.declared.fault.WireFault.{WireFault}
use Rattle.saw_wire.specs.declared.fault.WireFault.TheVariants as wires
use Rattle.saw_wire.specs.declared.record.Record.{Record}
use Rattle.saw_wire.specs.Pieces.{Piece, seen}
use Rattle.saw_wire.specs.Reading.{records_of}
use Rattle.saw_wire.specs.declared.fault.MessageFault.{MessageFault}
use Rattle.saw_wire.specs.declared.fault.MessageFault.TheVariants.{OutOfMemory}
use Rattle.saw_wire.specs.MessageFaults.{wrapped, ◌<|>◌}
use Rattle.saw_wire.specs.MessageReading.{first_fault, pieces_of, fault_of}

pub none_left : (a b : Option MessageFault) → (a <|> b) ≡ None → (a ≡ None) × (b ≡ None)
none_left None b e = (refl, e)
none_left (Some x) b e = absurd cc

pub none_push : (fault : Piece → Option MessageFault) (pieces : List Piece) (piece : Piece) → first_fault fault pieces ≡ None → fault piece ≡ None
    → first_fault fault (pieces ++ piece ∷ []) ≡ None
unfolding first_fault
none_push fault [] piece so_far here = rw here refl
none_push fault (first ∷ pieces) piece so_far here =
    let p = none_left (fault first) (first_fault fault pieces) so_far in
    rw p.0 (none_push fault pieces piece p.1 here)

pub fault_at : (fault : Piece → Option MessageFault) (bytes : List ℕ) (found : List Record) (i : ℕ) (d : Record) (e : MessageFault) → i < length found
    → first_fault fault (map (seen bytes) (take i found)) ≡ None → fault (seen bytes (get_or found i d)) ≡ Some e
    → first_fault fault (map (seen bytes) found) ≡ Some e
unfolding first_fault
fault_at fault bytes [] i d e lt so_far here = absurd (omega arith)
fault_at fault bytes (x ∷ found) zero d e lt so_far here = rw here refl
fault_at fault bytes (x ∷ found) (suc i) d e lt so_far here =
    let p = none_left (fault (seen bytes x)) (first_fault fault (map (seen bytes) (take i found))) so_far in
    rw p.0 (fault_at fault bytes found i d e (omega arith) p.1 here)

-- where the records have a fault
pub wire_ends : (fault : Piece → Option MessageFault) (bytes : List ℕ) (e : WireFault) → (e ≡ wires.OutOfMemory) ⊎ (records_of bytes ≡ Err e)
    → (wrapped e ≡ OutOfMemory) ⊎ (fault_of fault bytes ≡ Some (wrapped e))
unfolding fault_of
wire_ends fault bytes e (inl h) = inl (rw h refl)
wire_ends fault bytes wires.OutOfMemory (inr h) = inl refl
wire_ends fault bytes (wires.Cut at) (inr h) = inr (rw h refl)
wire_ends fault bytes (wires.BadKey at) (inr h) = inr (rw h refl)
wire_ends fault bytes (wires.LongVarint at) (inr h) = inr (rw h refl)

-- where a record has one
pub record_ends : (fault : Piece → Option MessageFault) (bytes : List ℕ) (found items : List Record) (i : ℕ) (d : Record) (e : MessageFault)
    → items ≡ found → records_of bytes ≡ Ok (map (seen bytes) found) → i < length items
    → first_fault fault (map (seen bytes) (take i items)) ≡ None → (e ≡ OutOfMemory) ⊎ (fault (seen bytes (get_or items i d)) ≡ Some e)
    → (e ≡ OutOfMemory) ⊎ (fault_of fault bytes ≡ Some e)
unfolding fault_of
record_ends fault bytes found items i d e same whole lt so_far (inl h) = inl h
record_ends fault bytes found items i d e same whole lt so_far (inr h) =
    let all : records_of bytes ≡ Ok (map (seen bytes) items) = rw same whole in
    inr (rw all (fault_at fault bytes items i d e lt so_far h))

pub none_at_first : (fault : Piece → Option MessageFault) → first_fault fault [] ≡ None
unfolding first_fault
none_at_first fault = refl

pub all_taken : (bytes : List ℕ) (found items : List Record) (i : ℕ) → items ≡ found → length items ≤ i
    → records_of bytes ≡ Ok (map (seen bytes) found) → map (seen bytes) (take i items) ≡ pieces_of bytes
unfolding pieces_of
all_taken bytes found items i same past whole = rw (whole, take_all i items past, same) refl

pub all_fine : (fault : Piece → Option MessageFault) (bytes : List ℕ) (found items : List Record) (i : ℕ) → items ≡ found → length items ≤ i
    → records_of bytes ≡ Ok (map (seen bytes) found)
    → first_fault fault (map (seen bytes) (take i items)) ≡ None → fault_of fault bytes ≡ None
unfolding fault_of
all_fine fault bytes found items i same past whole fine =
    let all : take i items ≡ found = take_all i items past ∙ same in
    let none : first_fault fault (map (seen bytes) found) ≡ None = rw all at fine in
    rw whole none

pub one_more : (bytes : List ℕ) (items : List Record) (i : ℕ) (d : Record) → i < length items
    → map (seen bytes) (take (i + 1) items) ≡ map (seen bytes) (take i items) ++ seen bytes (get_or items i d) ∷ []
one_more bytes items i d lt = rw (take_more items i d lt) (map_push (seen bytes) (take i items) (get_or items i d))
