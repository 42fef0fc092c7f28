-- What records say together: some after others, one more, and batches alone.
use Rattle.std.proofs.Common.{◌≡◌, ℕ, suc, arith, ◌<◌, ◌≤◌, ◌⊎◌, inl, inr, List, [], ◌∷◌, ◌++◌, length, map, take, get_or, All, Option, Some, None, Result, Ok, Err, refl, sym, ◌==◌, false}
use Rattle.std.specs.List.{filter_map}
use Rattle.std.proofs.lemmas.List.{append-nil, map-append, take_all}
use Rattle.std.proofs.lemmas.List.Elements.{filter_map-append}
use Rattle.saw_wire.specs.Pieces.{Piece, seen}
use Rattle.saw_wire.specs.Fields.{chunk_in, all_items, text_fault, item_fault}
use Rattle.saw_wire.proofs.FieldFaults.{fault_at}
use Rattle.saw_wire.specs.Reading.{records_of}
use Rattle.saw_wire.specs.MessageFaults.{◌<|>◌}
use Rattle.saw_wire.specs.MessageReading.{first_fault, pieces_of, fault_of, unless, reading}
use Rattle.saw_wire.specs.declared.record.Record.{Record}
use Rattle.saw_wire.specs.declared.fault.MessageFault.{MessageFault}
use Rattle.saw_wire.specs.declared.fault.MessageFault.TheVariants.{OutOfMemory}
use Rattle.saw_messages.specs.Parts.{said_by}
use Rattle.saw_messages.specs.Batches.{batch_of, batch_fault}
use Rattle.saw_messages.specs.Blocks.{block_of, block_fault}
use Rattle.saw_messages.specs.declared.batch.Batch.{Batch}
use Rattle.saw_messages.specs.declared.block.Block.{Block}

first_of_three : (here first rest : Option MessageFault) → (here <|> (first <|> rest)) ≡ ((here <|> first) <|> rest)
first_of_three None first rest = refl
first_of_three (Some x) first rest = refl

pub first_fault-append : (fault : Piece → Option MessageFault) (ps qs : List Piece)
    → first_fault fault (ps ++ qs) ≡ (first_fault fault ps <|> first_fault fault qs)
unfolding first_fault
first_fault-append fault [] qs = refl
first_fault-append fault (p ∷ ps) qs =
    rw (first_fault-append fault ps qs) (first_of_three (fault p) (first_fault fault ps) (first_fault fault qs))

pub all_items-append : {A : Type 0} (of : List Piece → A) (field : ℕ) (ps qs : List Piece)
    → all_items of field (ps ++ qs) ≡ all_items of field ps ++ all_items of field qs
all_items-append of field ps qs = rw (filter_map-append (chunk_in field) ps qs)
    (map-append (λ bytes. of (pieces_of bytes)) (filter_map (chunk_in field) ps) (filter_map (chunk_in field) qs))

-- ---- what was said_by

module _ {A : Type 0} (of : List Piece → A) (fault : Piece → Option MessageFault) (pieces : List Piece) where
  pub is_gathered : (x : A) → x ≡ of pieces → first_fault fault pieces ≡ None → said_by of fault pieces ≡ Ok x
  is_gathered x is none = rw (none, is) refl

  pub is_fault : (e : MessageFault) → first_fault fault pieces ≡ Some e → said_by of fault pieces ≡ Err e
  is_fault e here = rw here refl

  unless_ok : (fault' : Option MessageFault) (y x : A) → unless fault' y ≡ Ok x → (fault' ≡ None) × (y ≡ x)
  unless_ok None y x e = (refl, cc)
  unless_ok (Some f) y x e = absurd cc

  unless_err : (fault' : Option MessageFault) (y : A) (e : MessageFault) → unless fault' y ≡ Err e → fault' ≡ Some e
  unless_err None y e is = absurd cc
  unless_err (Some f) y e is = cc

  pub gathered_ok : (x : A) → said_by of fault pieces ≡ Ok x → (first_fault fault pieces ≡ None) × (of pieces ≡ x)
  gathered_ok x e = unless_ok (first_fault fault pieces) (of pieces) x e

  pub gathered_err : (e : MessageFault) → said_by of fault pieces ≡ Err e → first_fault fault pieces ≡ Some e
  gathered_err e is = unless_err (first_fault fault pieces) (of pieces) e is

-- ---- batches in two parts

abbrev Batches : List Piece → Result (List Batch) MessageFault
Batches pieces = said_by (all_items batch_of 3) (item_fault batch_fault 3) pieces

pub batches_joined : (ps qs : List Piece) (batches others : List Batch) → Batches ps ≡ Ok batches → Batches qs ≡ Ok others
    → Batches (ps ++ qs) ≡ Ok (batches ++ others)
batches_joined ps qs batches others one two =
    let p = gathered_ok (all_items batch_of 3) (item_fault batch_fault 3) ps batches one in
    let q = gathered_ok (all_items batch_of 3) (item_fault batch_fault 3) qs others two in
    is_gathered (all_items batch_of 3) (item_fault batch_fault 3) (ps ++ qs) (batches ++ others)
    (sym (rw (← p.1, ← q.1) (all_items-append batch_of 3 ps qs)))
    (rw (first_fault-append (item_fault batch_fault 3) ps qs, p.0) q.0)

-- the fault of the first part is that of all
pub first_part : {A : Type 0} (of : List Piece → A) (fault : Piece → Option MessageFault) (ps qs : List Piece) (e : MessageFault)
    → said_by of fault ps ≡ Err e → said_by of fault (ps ++ qs) ≡ Err e
first_part of fault ps qs e here =
    is_fault of fault (ps ++ qs) e (rw (first_fault-append fault ps qs, gathered_err of fault ps e here) refl)

-- that of the second is, where the first has none
pub second_part : {A : Type 0} (of : List Piece → A) (fault : Piece → Option MessageFault) (ps qs : List Piece) (x : A) (e : MessageFault)
    → said_by of fault ps ≡ Ok x → said_by of fault qs ≡ Err e → said_by of fault (ps ++ qs) ≡ Err e
second_part of fault ps qs x e fine here =
    is_fault of fault (ps ++ qs) e (rw (first_fault-append fault ps qs, (gathered_ok of fault ps x fine).0) (gathered_err of fault qs e here))

-- ---- records of batches alone

abbrev AreBatches : List Piece → Type 0
AreBatches [] = Unit {0}
AreBatches (q ∷ qs) = (q.field ≡ 3) × AreBatches qs

none_of : (field : ℕ) → (3 == field) ≡ false → (qs : List Piece) → AreBatches qs → filter_map (chunk_in field) qs ≡ []
unfolding chunk_in
none_of field other [] all = refl
none_of field other (q ∷ qs) all = rw (all.0, other) (none_of field other qs all.1)

block_fault_is : (qs : List Piece) → AreBatches qs → first_fault block_fault qs ≡ first_fault (item_fault batch_fault 3) qs
unfolding first_fault chunk_in text_fault
block_fault_is [] all = refl
block_fault_is (q ∷ qs) all = rw (all.0, block_fault_is qs all.1) refl

pub fields_seen : (bytes : List ℕ) (found : List Record) → All (λ one. one.field ≡ 3) found → AreBatches (map (seen bytes) found)
fields_seen bytes [] all = tt
fields_seen bytes (one ∷ found) all = (all 0 one (omega arith), fields_seen bytes found (λ k d lt. all (suc k) d (omega arith)))

pub block_joined : (ps qs : List Piece) (front : Block) (batches : List Batch) → AreBatches qs → said_by block_of block_fault ps ≡ Ok front
    → Batches qs ≡ Ok batches
    → said_by block_of block_fault (ps ++ qs) ≡ Ok (record { header = front.header; header_signature = front.header_signature; batches = front.batches ++ batches })
block_joined ps qs front batches all one two =
    let p = gathered_ok block_of block_fault ps front one in
    let q = gathered_ok (all_items batch_of 3) (item_fault batch_fault 3) qs batches two in
    is_gathered block_of block_fault (ps ++ qs) _
    (rw (
      ← p.1,
      ← q.1,
      filter_map-append (chunk_in 1) ps qs,
      filter_map-append (chunk_in 2) ps qs,
      none_of 1 refl qs all,
      none_of 2 refl qs all,
      append-nil (filter_map (chunk_in 1) ps),
      append-nil (filter_map (chunk_in 2) ps),
      all_items-append batch_of 3 ps qs,
    ) refl)
    (rw (first_fault-append block_fault ps qs, p.0, block_fault_is qs all) q.0)

pub batches_end : (ps qs : List Piece) (front : Block) (e : MessageFault) → AreBatches qs → said_by block_of block_fault ps ≡ Ok front
    → Batches qs ≡ Err e → said_by block_of block_fault (ps ++ qs) ≡ Err e
batches_end ps qs front e all fine here =
    is_fault block_of block_fault (ps ++ qs) e
    (rw (first_fault-append block_fault ps qs, (gathered_ok block_of block_fault ps front fine).0, block_fault_is qs all)
    (gathered_err (all_items batch_of 3) (item_fault batch_fault 3) qs e here))

-- ---- the records of bytes

pub gathered_reads : {A : Type 0} (of : List Piece → A) (fault : Piece → Option MessageFault) (bytes : List ℕ) (pieces : List Piece) → records_of bytes ≡ Ok pieces
    → reading of fault bytes ≡ said_by of fault pieces
unfolding pieces_of fault_of
gathered_reads of fault bytes pieces is = rw is refl

pub fault_reads : {A : Type 0} (of : List Piece → A) (fault : Piece → Option MessageFault) (bytes : List ℕ) (e : MessageFault)
    → (e ≡ OutOfMemory) ⊎ (fault_of fault bytes ≡ Some e) → (e ≡ OutOfMemory) ⊎ (reading of fault bytes ≡ Err e)
fault_reads of fault bytes e (inl memory) = inl memory
fault_reads of fault bytes e (inr here) = inr (rw here refl)

-- ---- a loop over records

module _ {A : Type 0} (of : List Piece → A) (fault : Piece → Option MessageFault) (bytes : List ℕ) (found : List Record) where
  pub part_ends : (i : ℕ) (d : Record) (e : MessageFault) → i < length found → first_fault fault (map (seen bytes) (take i found)) ≡ None
      → (e ≡ OutOfMemory) ⊎ (fault (seen bytes (get_or found i d)) ≡ Some e)
      → (e ≡ OutOfMemory) ⊎ (said_by of fault (map (seen bytes) found) ≡ Err e)
  part_ends i d e lt so_far (inl memory) = inl memory
  part_ends i d e lt so_far (inr here) = inr (is_fault of fault (map (seen bytes) found) e (fault_at fault bytes found i d e lt so_far here))

  pub part_done : (i : ℕ) (x : A) → length found ≤ i → x ≡ of (map (seen bytes) (take i found))
      → first_fault fault (map (seen bytes) (take i found)) ≡ None → said_by of fault (map (seen bytes) found) ≡ Ok x
  part_done i x past is none =
      let all : take i found ≡ found = take_all i found past in
      is_gathered of fault (map (seen bytes) found) x (rw all at is) (rw all at none)

-- ---- records in two parts

module _ {A : Type 0} (of : List Piece → A) (fault : Piece → Option MessageFault) (bytes : List ℕ) (found front rest : List Record) where
  pub front_ends : (e : MessageFault) → found ≡ front ++ rest → (e ≡ OutOfMemory) ⊎ (said_by of fault (map (seen bytes) front) ≡ Err e)
      → (e ≡ OutOfMemory) ⊎ (said_by of fault (map (seen bytes) found) ≡ Err e)
  front_ends e cut (inl memory) = inl memory
  front_ends e cut (inr here) = inr (rw (cut, map-append (seen bytes) front rest)
      (first_part of fault (map (seen bytes) front) (map (seen bytes) rest) e here))

  pub rest_ends : (x : A) (e : MessageFault) → found ≡ front ++ rest → said_by of fault (map (seen bytes) front) ≡ Ok x
      → (e ≡ OutOfMemory) ⊎ (said_by of fault (map (seen bytes) rest) ≡ Err e)
      → (e ≡ OutOfMemory) ⊎ (said_by of fault (map (seen bytes) found) ≡ Err e)
  rest_ends x e cut fine (inl memory) = inl memory
  rest_ends x e cut fine (inr here) = inr (rw (cut, map-append (seen bytes) front rest)
      (second_part of fault (map (seen bytes) front) (map (seen bytes) rest) x e fine here))

module _ (bytes : List ℕ) (found front rest : List Record) where
  pub parts_joined : (batches others : List Batch) → found ≡ front ++ rest → Batches (map (seen bytes) front) ≡ Ok batches
      → Batches (map (seen bytes) rest) ≡ Ok others → Batches (map (seen bytes) found) ≡ Ok (batches ++ others)
  parts_joined batches others cut one two = rw (cut, map-append (seen bytes) front rest)
      (batches_joined (map (seen bytes) front) (map (seen bytes) rest) batches others one two)

  pub run_ends : (block : Block) (e : MessageFault) → found ≡ front ++ rest → All (λ one. one.field ≡ 3) rest
      → said_by block_of block_fault (map (seen bytes) front) ≡ Ok block → (e ≡ OutOfMemory) ⊎ (Batches (map (seen bytes) rest) ≡ Err e)
      → (e ≡ OutOfMemory) ⊎ (said_by block_of block_fault (map (seen bytes) found) ≡ Err e)
  run_ends block e cut all fine (inl memory) = inl memory
  run_ends block e cut all fine (inr here) = inr (rw (cut, map-append (seen bytes) front rest)
      (batches_end (map (seen bytes) front) (map (seen bytes) rest) block e (fields_seen bytes rest all) fine here))

  pub run_joined : (block : Block) (batches : List Batch) → found ≡ front ++ rest → All (λ one. one.field ≡ 3) rest
      → said_by block_of block_fault (map (seen bytes) front) ≡ Ok block → Batches (map (seen bytes) rest) ≡ Ok batches
      → said_by block_of block_fault (map (seen bytes) found)
      ≡ Ok (record { header = block.header; header_signature = block.header_signature; batches = block.batches ++ batches })
  run_joined block batches cut all one two = rw (cut, map-append (seen bytes) front rest)
      (block_joined (map (seen bytes) front) (map (seen bytes) rest) block batches (fields_seen bytes rest all) one two)
