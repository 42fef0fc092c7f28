-- What one more record does to a field.
use Rattle.std.proofs.Common.{◌≡◌, ℕ, List, [], ◌∷◌, ◌++◌, Option, Some, None, refl, sym, ◌∙◌}
use Rattle.std.specs.List.{filter_map, flat_map}
use Rattle.std.proofs.lemmas.List.{append-nil, map_push, flat_map_more}
use Rattle.std.proofs.lemmas.List.Elements.{filter_map-append}
use Rattle.saw_wire.specs.Pieces.{Piece}
use Rattle.saw_wire.specs.declared.fault.MessageFault.{MessageFault}
use Rattle.saw_wire.specs.MessageReading.{pieces_of, fault_of}
use Rattle.saw_wire.specs.Fields.{last_or, chunk_in, all_items, embedded, inner_pieces, item_fault}

last_or-push : {A : Type 0} (d : A) (xs : List A) (x : A) → last_or d (xs ++ x ∷ []) ≡ x
last_or-push d [] x = refl
last_or-push d (y ∷ xs) x = last_or-push y xs x

pub all_some : {A : Type 0} (h : Piece → Option A) (pieces : List Piece) (piece : Piece) (x : A) → h piece ≡ Some x
    → filter_map h (pieces ++ piece ∷ []) ≡ filter_map h pieces ++ x ∷ []
all_some h pieces piece x e = rw (filter_map-append h pieces (piece ∷ []), e) refl

pub all_none : {A : Type 0} (h : Piece → Option A) (pieces : List Piece) (piece : Piece) → h piece ≡ None
    → filter_map h (pieces ++ piece ∷ []) ≡ filter_map h pieces
all_none h pieces piece e = rw (filter_map-append h pieces (piece ∷ []), e) (append-nil (filter_map h pieces))

pub last_some : {A : Type 0} (h : Piece → Option A) (d x : A) (pieces : List Piece) (piece : Piece) → h piece ≡ Some x
    → last_or d (filter_map h (pieces ++ piece ∷ [])) ≡ x
last_some h d x pieces piece e = rw (all_some h pieces piece x e) (last_or-push d (filter_map h pieces) x)

pub last_none : {A : Type 0} (h : Piece → Option A) (d : A) (pieces : List Piece) (piece : Piece) → h piece ≡ None
    → last_or d (filter_map h (pieces ++ piece ∷ [])) ≡ last_or d (filter_map h pieces)
last_none h d pieces piece e = rw (all_none h pieces piece e) refl

-- ---- a field of embedded messages

pub items_some : {A : Type 0} (of : List Piece → A) (field : ℕ) (pieces : List Piece) (piece : Piece) (bytes : List ℕ)
    → chunk_in field piece ≡ Some bytes → all_items of field (pieces ++ piece ∷ []) ≡ all_items of field pieces ++ of (pieces_of bytes) ∷ []
items_some of field pieces piece bytes e = rw (all_some (chunk_in field) pieces piece bytes e)
    (map_push (λ inner. of (pieces_of inner)) (filter_map (chunk_in field) pieces) bytes)

pub items_none : {A : Type 0} (of : List Piece → A) (field : ℕ) (pieces : List Piece) (piece : Piece) → chunk_in field piece ≡ None
    → all_items of field (pieces ++ piece ∷ []) ≡ all_items of field pieces
items_none of field pieces piece e = rw (all_none (chunk_in field) pieces piece e) refl

pub embedded_some : (field : ℕ) (pieces : List Piece) (piece : Piece) (bytes : List ℕ) → chunk_in field piece ≡ Some bytes
    → embedded field (pieces ++ piece ∷ []) ≡ embedded field pieces ++ pieces_of bytes
embedded_some field pieces piece bytes e = sym (flat_map_more (λ p. inner_pieces (chunk_in field p)) [] pieces piece) ∙ rw e refl

pub embedded_none : (field : ℕ) (pieces : List Piece) (piece : Piece) → chunk_in field piece ≡ None
    → embedded field (pieces ++ piece ∷ []) ≡ embedded field pieces
embedded_none field pieces piece e = sym (flat_map_more (λ p. inner_pieces (chunk_in field p)) [] pieces piece)
    ∙ rw e (append-nil (flat_map (λ p. inner_pieces (chunk_in field p)) pieces))

pub item_fault_some : (fault : Piece → Option MessageFault) (field : ℕ) (piece : Piece) (bytes : List ℕ) → chunk_in field piece ≡ Some bytes
    → item_fault fault field piece ≡ fault_of fault bytes
unfolding item_fault
item_fault_some fault field piece bytes e = rw e refl

pub item_fault_none : (fault : Piece → Option MessageFault) (field : ℕ) (piece : Piece) → chunk_in field piece ≡ None → item_fault fault field piece ≡ None
unfolding item_fault
item_fault_none fault field piece e = rw e refl
