-- The bytes of a block, part by part.
use Rattle.std.proofs.Common.{◌≡◌, ◌⊎◌, ℕ, List, [], ◌∷◌, ◌++◌, map, refl, sym, ap, ◌∙◌, inl, inr}
use Rattle.std.proofs.lemmas.List.{append-nil}
use Rattle.saw_messages.specs.Batches.{batch_pieces}
use Rattle.saw_messages.specs.Blocks.{block_pieces}
use Rattle.saw_messages.specs.declared.batch.Batch.{Batch}
use Rattle.saw_wire.specs.Pieces.{Chunk, Piece}
use Rattle.saw_wire.specs.Writing.{bytes_pieces, spelled}
use Rattle.saw_wire.specs.Written.{items_pieces, texts_pieces}
use Rattle.saw_wire.proofs.Written.{spelled_append}
use Rattle.saw_publish.specs.Candidates.{signed_block}
use Rattle.saw_publish.specs.Fates.{Fates, still_in}
use Rattle.saw_publish.specs.Room.{encoded}
use Rattle.saw_publish.proofs.Staying.{still_in_map}

-- behind the last fate or the last batch nothing stays in
none_left : {A : Type 0} (fates : Fates) (xs : List A) → (fates ≡ []) ⊎ (xs ≡ []) → still_in fates xs ≡ []
none_left [] xs none = refl
none_left (fate ∷ fates) [] none = refl
none_left (fate ∷ fates) (x ∷ xs) (inl e) = absurd cc
none_left (fate ∷ fates) (x ∷ xs) (inr e) = absurd cc

pub bytes_ended : (out whole : List ℕ) (fates : Fates) (encodings : List (List ℕ)) → (fates ≡ []) ⊎ (encodings ≡ [])
    → out ++ spelled (texts_pieces 3 (still_in fates encodings)) ≡ whole → out ≡ whole
bytes_ended out whole fates encodings none is =
    sym (append-nil out) ∙ ap (λ rest. out ++ spelled (texts_pieces 3 rest)) (sym (none_left fates encodings none)) ∙ is

-- a batch is written by its bytes
batches_are : (batches : List Batch) → texts_pieces 3 (map encoded batches) ≡ items_pieces batch_pieces 3 batches
batches_are [] = refl
batches_are (batch ∷ batches) = ap (λ (rest : List Piece). record { field = 3; content = Chunk (encoded batch) } ∷ rest) (batches_are batches)

-- header, signature and batches one after another
pub block_is : (header signature out_1 out_2 out_3 : List ℕ) (fates : Fates) (encodings : List (List ℕ)) → out_1 ≡ spelled (bytes_pieces 1 header)
    → out_2 ≡ out_1 ++ spelled (bytes_pieces 2 signature) → out_3 ≡ out_2 ++ spelled (texts_pieces 3 (still_in fates encodings))
    → (batches : List Batch) (signs : List ℕ → List ℕ) → encodings ≡ map encoded batches → signature ≡ signs header
    → out_3 ≡ spelled (block_pieces (signed_block signs header (still_in fates batches)))
block_is header signature out_1 out_2 out_3 fates encodings first second third batches signs e s =
    let applied = still_in fates batches in
    let rest : texts_pieces 3 (still_in fates encodings) ≡ items_pieces batch_pieces 3 applied =
    ap (λ encodings. texts_pieces 3 (still_in fates encodings)) e ∙ ap (texts_pieces 3) (still_in_map encoded fates batches) ∙ batches_are applied in
    third ∙ ap (λ pieces. out_2 ++ spelled pieces) rest
    ∙ ap (λ out. out ++ spelled (items_pieces batch_pieces 3 applied)) (second
    ∙ ap (λ out. out ++ spelled (bytes_pieces 2 signature)) first ∙ ap (λ sig. spelled (bytes_pieces 1 header) ++ spelled (bytes_pieces 2 sig)) s)
    ∙ ap (λ front. front ++ spelled (items_pieces batch_pieces 3 applied)) (sym (spelled_append (bytes_pieces 1 header) (bytes_pieces 2 (signs header))))
    ∙ sym (spelled_append (bytes_pieces 1 header ++ bytes_pieces 2 (signs header)) (items_pieces batch_pieces 3 applied))
