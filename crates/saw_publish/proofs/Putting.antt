-- A batch that is taken after those of a list so far, by what the code counted.
use Rattle.std.proofs.Common.{◌≡◌, ℕ, ◌+◌, Bool, true, false, ◌&&◌, List, [], ◌∷◌, ◌++◌, length, Some, None, nat_le, refl, sym, ap, ◌∙◌}
use Rattle.std.proofs.lemmas.Bool.{and_parts, leb-true}
use Rattle.std.proofs.lemmas.List.{length-map}
use Rattle.saw_checks.specs.BatchFaults.{batch_fault}
use Rattle.saw_checks.specs.declared.fault.BatchFault.{BatchFault}
use Rattle.saw_messages.specs.TxShapes.{BatchShape, shape_in}
use Rattle.saw_messages.specs.declared.batch.Batch.{Batch}
use Rattle.saw_receipts.specs.Shapes.{batch_in}
use Rattle.saw_receipts.specs.declared.loss.LossCause.TheVariants.{Check, Room}
use Rattle.saw_publish.specs.Fates.{Fates}
use Rattle.saw_publish.specs.Room.{encoded}
use Rattle.saw_publish.specs.Sifting.{IsSifted}
use Rattle.saw_publish.specs.declared.sift.Sifted.{Sifted}
use Rattle.saw_publish.proofs.Roomy.{room_counted, sifted_bad, sifted_in, sifted_out}

-- as many transactions were read as there are
read_count : (batch : Batch) (read : BatchShape) → read ≡ batch_in batch → length read.txs ≡ length batch.transactions
read_count batch read is = ap (λ (shape : BatchShape). length shape.txs) is ∙ length-map batch.transactions shape_in

-- the room that was counted
fits_as : (read : BatchShape) (encoding : List ℕ) (batch : Batch) (old : Sifted) (transactions bytes : ℕ) → read ≡ batch_in batch → encoding ≡ encoded batch
    → transactions ≡ length read.txs → bytes ≡ length encoding
    → (nat_le (old.transactions + length batch.transactions) 20000 && nat_le (old.bytes + length (encoded batch)) 12582912)
    ≡ (nat_le (old.transactions + transactions) 20000 && nat_le (old.bytes + bytes) 12582912)
fits_as read encoding batch old transactions bytes read_is encoding_is count size =
    let e = count ∙ read_count batch read read_is in
    let f = size ∙ ap length encoding_is in
    rw (sym e, sym f) refl

module _ (read : BatchShape) (encoding : List ℕ) (transactions bytes : ℕ) (old : Sifted) (fates : Fates) (count : transactions ≡ length read.txs)
    (size : bytes ≡ length encoding) where
  pub put_out : fates ≡ old.fates ++ Some Room ∷ []
      → (nat_le (old.transactions + transactions) 20000 && nat_le (old.bytes + bytes) 12582912) ≡ false
      → (accepts : List ℕ → List ℕ → List ℕ → Bool) (done : List Batch) (batch : Batch) → batch_fault accepts batch ≡ None → read ≡ batch_in batch
      → encoding ≡ encoded batch → IsSifted accepts done old
      → IsSifted accepts (done ++ batch ∷ [])
      (record { fates = fates; batches = old.batches; encodings = old.encodings; transactions = old.transactions; bytes = old.bytes })
  put_out pushed full accepts done batch fine read_is encoding_is is =
      sifted_out accepts done batch fine old _ is
      (room_counted accepts done batch old is ∙ fits_as read encoding batch old transactions bytes read_is encoding_is count size ∙ full)
      pushed refl refl refl refl

  pub put_in : (batches : List BatchShape) (encodings : List (List ℕ)) → fates ≡ old.fates ++ None ∷ [] → batches ≡ old.batches ++ read ∷ []
      → encodings ≡ old.encodings ++ encoding ∷ []
      → (nat_le (old.transactions + transactions) 20000 && nat_le (old.bytes + bytes) 12582912) ≡ true
      → (accepts : List ℕ → List ℕ → List ℕ → Bool) (done : List Batch) (batch : Batch) → batch_fault accepts batch ≡ None → read ≡ batch_in batch
      → encoding ≡ encoded batch → IsSifted accepts done old
      → IsSifted accepts (done ++ batch ∷ [])
      (record { fates = fates; batches = batches; encodings = encodings; transactions = old.transactions + transactions; bytes = old.bytes + bytes })
  put_in batches encodings pushed kept written fits accepts done batch fine read_is encoding_is is =
      let parts = and_parts (nat_le (old.transactions + transactions) 20000) (nat_le (old.bytes + bytes) 12582912) fits in
      sifted_in accepts done batch fine old _ is
      (room_counted accepts done batch old is ∙ fits_as read encoding batch old transactions bytes read_is encoding_is count size ∙ fits)
      pushed (kept ∙ ap (λ one. old.batches ++ one ∷ []) read_is) (written ∙ ap (λ one. old.encodings ++ one ∷ []) encoding_is)
      (ap (λ n. old.transactions + n) (count ∙ read_count batch read read_is)) (ap (λ n. old.bytes + n) (size ∙ ap length encoding_is))
      (leb-true (old.transactions + transactions) 20000 parts.0) (leb-true (old.bytes + bytes) 12582912 parts.1)

pub take_bad : (old : Sifted) (fates : Fates) (fault : BatchFault) → fates ≡ old.fates ++ Some (Check fault) ∷ []
    → (accepts : List ℕ → List ℕ → List ℕ → Bool) (done : List Batch) (batch : Batch) → batch_fault accepts batch ≡ Some fault → IsSifted accepts done old
    → IsSifted accepts (done ++ batch ∷ [])
    (record { fates = fates; batches = old.batches; encodings = old.encodings; transactions = old.transactions; bytes = old.bytes })
take_bad old fates fault pushed accepts done batch bad is = sifted_bad accepts done batch fault bad old _ is pushed refl refl refl refl
