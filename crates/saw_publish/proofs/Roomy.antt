-- Batches that find room one after another, and one more.
use Rattle.std.proofs.Common.{◌≡◌, ◌≤◌, ℕ, suc, ◌+◌, Bool, true, false, ◌&&◌, List, [], ◌∷◌, ◌++◌, length, map, Option, Some, None, nat_le, refl, sym, ap, subst, ◌∙◌}
use Rattle.std.specs.Prelude.{if◌then◌else◌, option_map}
use Rattle.std.proofs.lemmas.List.{append-nil, append_assoc, length-map, map_push}
use Rattle.std.proofs.lemmas.List.Sums.{sum_by_push}
use Rattle.saw_checks.specs.BatchFaults.{batch_fault}
use Rattle.saw_checks.specs.declared.fault.BatchFault.{BatchFault}
use Rattle.saw_messages.specs.declared.batch.Batch.{Batch}
use Rattle.saw_receipts.specs.declared.loss.LossCause.{LossCause}
use Rattle.saw_receipts.specs.declared.loss.LossCause.TheVariants.{Check, Room}
use Rattle.saw_receipts.specs.Shapes.{batch_in}
use Rattle.saw_publish.specs.Drafts.{check_fates}
use Rattle.saw_publish.specs.Fates.{Fates, further, still_in}
use Rattle.saw_publish.specs.Room.{bytes_in, encoded, finds_room, room_fates, transactions_in}
use Rattle.saw_publish.specs.Sifting.{IsSifted, good_of, roomy_of}
use Rattle.saw_publish.specs.declared.sift.Sifted.{Sifted}
use Rattle.saw_publish.proofs.Staying.{further_push_in, further_push_out, length-still_in, still_in_push_in, still_in_push_out}

-- ---- room

abbrev fate_by : Bool → Option LossCause
fate_by fits = if fits then None else Some Room

pub length-room_fates : (there xs : List Batch) → length (room_fates there xs) ≡ length xs
length-room_fates there [] = refl
length-room_fates there (x ∷ xs) =
    elim (finds_room there x) as (λ fits. length (if fits then None ∷ room_fates (there ++ x ∷ []) xs else Some Room ∷ room_fates there xs) ≡ length (x ∷ xs)) [
      | true ↦ ap suc (length-room_fates (there ++ x ∷ []) xs)
      | false ↦ ap suc (length-room_fates there xs)
    ]

-- the fate of one more batch is by what found room before it
pub room_fates_push : (there xs : List Batch) (x : Batch)
    → room_fates there (xs ++ x ∷ []) ≡ room_fates there xs ++ fate_by (finds_room (there ++ still_in (room_fates there xs) xs) x) ∷ []
room_fates_push there [] x =
    rw (append-nil there) (elim (finds_room there x) as
    (λ fits. (if fits then None ∷ room_fates (there ++ x ∷ []) [] else Some Room ∷ room_fates there []) ≡ fate_by fits ∷ []) [ true ↦ refl | false ↦ refl ])
room_fates_push there (y ∷ ys) x =
    elim (finds_room there y) as (λ fits.
    (if fits then None ∷ room_fates (there ++ y ∷ []) (ys ++ x ∷ []) else Some Room ∷ room_fates there (ys ++ x ∷ []))
    ≡ (if fits then None ∷ room_fates (there ++ y ∷ []) ys else Some Room ∷ room_fates there ys)
    ++ fate_by (finds_room (there ++ still_in (if fits then None ∷ room_fates (there ++ y ∷ []) ys else Some Room ∷ room_fates there ys) (y ∷ ys)) x) ∷ []) [
      | true ↦
          ap (λ (rest : Fates). None ∷ rest) (room_fates_push (there ++ y ∷ []) ys x)
          ∙ ap (λ passed. None ∷ (room_fates (there ++ y ∷ []) ys ++ fate_by (finds_room passed x) ∷ []))
          (append_assoc there (y ∷ []) (still_in (room_fates (there ++ y ∷ []) ys) ys))
      | false ↦ ap (λ rest. Some Room ∷ rest) (room_fates_push there ys x)
    ]

-- ---- the batches of a list so far, and one more

module _ (accepts : List ℕ → List ℕ → List ℕ → Bool) (done : List Batch) (batch : Batch) where
  checks_more : check_fates accepts (done ++ batch ∷ []) ≡ check_fates accepts done ++ option_map Check (batch_fault accepts batch) ∷ []
  checks_more = map_push (λ (batch : Batch). option_map Check (batch_fault accepts batch)) done batch

  same_length : length (check_fates accepts done) ≡ length done
  same_length = length-map done (λ (batch : Batch). option_map Check (batch_fault accepts batch))

  module _ (fault : BatchFault) (bad : batch_fault accepts batch ≡ Some fault) where
    checks_bad : check_fates accepts (done ++ batch ∷ []) ≡ check_fates accepts done ++ Some (Check fault) ∷ []
    checks_bad = checks_more ∙ ap (λ found. check_fates accepts done ++ option_map Check found ∷ []) bad

    good_bad : good_of accepts (done ++ batch ∷ []) ≡ good_of accepts done
    good_bad = ap (λ fates. still_in fates (done ++ batch ∷ [])) checks_bad ∙ still_in_push_out (check_fates accepts done) (Check fault) done batch same_length

    -- a batch with a fault is left out
    pub sifted_bad : (old new : Sifted) → IsSifted accepts done old → new.fates ≡ old.fates ++ Some (Check fault) ∷ [] → new.batches ≡ old.batches
        → new.encodings ≡ old.encodings → new.transactions ≡ old.transactions → new.bytes ≡ old.bytes → IsSifted accepts (done ++ batch ∷ []) new
    sifted_bad old new is fates batches encodings transactions bytes =
        let rooms = room_fates [] (good_of accepts done) in record {
          fates = fates ∙ ap (λ fates. fates ++ Some (Check fault) ∷ []) is.fates ∙ sym (further_push_out (check_fates accepts done) (Check fault) rooms)
              ∙ sym (ap (λ fates. further fates rooms) checks_bad)
              ∙ ap (λ good. further (check_fates accepts (done ++ batch ∷ [])) (room_fates [] good)) (sym good_bad);
          batches = batches ∙ is.batches ∙ ap (λ good. map batch_in (roomy_of good)) (sym good_bad);
          encodings = encodings ∙ is.encodings ∙ ap (λ good. map encoded (roomy_of good)) (sym good_bad);
          transactions = transactions ∙ is.transactions ∙ ap (λ good. transactions_in (roomy_of good)) (sym good_bad);
          bytes = bytes ∙ is.bytes ∙ ap (λ good. bytes_in (roomy_of good)) (sym good_bad);
          few = subst (λ n. n ≤ 20000) (sym transactions) is.few;
          small = subst (λ n. n ≤ 12582912) (sym bytes) is.small;
        }

  module _ (fine : batch_fault accepts batch ≡ None) where
    good : List Batch
    good = good_of accepts done

    checks_good : check_fates accepts (done ++ batch ∷ []) ≡ check_fates accepts done ++ None ∷ []
    checks_good = checks_more ∙ ap (λ found. check_fates accepts done ++ option_map Check found ∷ []) fine

    good_more : good_of accepts (done ++ batch ∷ []) ≡ good_of accepts done ++ batch ∷ []
    good_more = ap (λ fates. still_in fates (done ++ batch ∷ [])) checks_good ∙ still_in_push_in (check_fates accepts done) done batch same_length

    rooms_more : room_fates [] (good_of accepts (done ++ batch ∷ []))
        ≡ room_fates [] (good_of accepts done) ++ fate_by (finds_room (roomy_of (good_of accepts done)) batch) ∷ []
    rooms_more = ap (room_fates []) good_more ∙ room_fates_push [] (good_of accepts done) batch

    fates_more : (fits : Bool) → finds_room (roomy_of (good_of accepts done)) batch ≡ fits
        → further (check_fates accepts (done ++ batch ∷ [])) (room_fates [] (good_of accepts (done ++ batch ∷ [])))
        ≡ further (check_fates accepts done) (room_fates [] (good_of accepts done)) ++ fate_by fits ∷ []
    fates_more fits is =
        ap (λ fates. further fates (room_fates [] (good_of accepts (done ++ batch ∷ [])))) checks_good
        ∙ ap (further (check_fates accepts done ++ None ∷ [])) rooms_more
        ∙ further_push_in (check_fates accepts done) (room_fates [] (good_of accepts done)) _
        (length-room_fates [] (good_of accepts done) ∙ length-still_in (check_fates accepts done) done same_length)
        ∙ ap (λ fits. further (check_fates accepts done) (room_fates [] (good_of accepts done)) ++ fate_by fits ∷ []) is

    roomy_more : (fits : Bool) → finds_room (roomy_of (good_of accepts done)) batch ≡ fits
        → roomy_of (good_of accepts (done ++ batch ∷ []))
        ≡ still_in (room_fates [] (good_of accepts done) ++ fate_by fits ∷ []) (good_of accepts done ++ batch ∷ [])
    roomy_more fits is =
        ap (λ fates. still_in fates (good_of accepts (done ++ batch ∷ []))) (rooms_more ∙ ap (λ fits. room_fates [] (good_of accepts done) ++ fate_by fits ∷ []) is)
        ∙ ap (still_in (room_fates [] (good_of accepts done) ++ fate_by fits ∷ [])) good_more

    roomy_out : finds_room (roomy_of (good_of accepts done)) batch ≡ false → roomy_of (good_of accepts (done ++ batch ∷ [])) ≡ roomy_of (good_of accepts done)
    roomy_out full = roomy_more false full
        ∙ still_in_push_out (room_fates [] (good_of accepts done)) Room (good_of accepts done) batch (length-room_fates [] (good_of accepts done))

    roomy_in : finds_room (roomy_of (good_of accepts done)) batch ≡ true
        → roomy_of (good_of accepts (done ++ batch ∷ [])) ≡ roomy_of (good_of accepts done) ++ batch ∷ []
    roomy_in fits = roomy_more true fits
        ∙ still_in_push_in (room_fates [] (good_of accepts done)) (good_of accepts done) batch (length-room_fates [] (good_of accepts done))

    -- a batch without fault that finds no room is left out
    pub sifted_out : (old new : Sifted) → IsSifted accepts done old → finds_room (roomy_of (good_of accepts done)) batch ≡ false
        → new.fates ≡ old.fates ++ Some Room ∷ [] → new.batches ≡ old.batches
        → new.encodings ≡ old.encodings → new.transactions ≡ old.transactions → new.bytes ≡ old.bytes → IsSifted accepts (done ++ batch ∷ []) new
    sifted_out old new is full fates batches encodings transactions bytes = record {
      fates = fates ∙ ap (λ fates. fates ++ Some Room ∷ []) is.fates ∙ sym (fates_more false full);
      batches = batches ∙ is.batches ∙ ap (map batch_in) (sym (roomy_out full));
      encodings = encodings ∙ is.encodings ∙ ap (map encoded) (sym (roomy_out full));
      transactions = transactions ∙ is.transactions ∙ ap transactions_in (sym (roomy_out full));
      bytes = bytes ∙ is.bytes ∙ ap bytes_in (sym (roomy_out full));
      few = subst (λ n. n ≤ 20000) (sym transactions) is.few;
      small = subst (λ n. n ≤ 12582912) (sym bytes) is.small;
    }

    -- one that finds room stays in
    pub sifted_in : (old new : Sifted) → IsSifted accepts done old → finds_room (roomy_of (good_of accepts done)) batch ≡ true
        → new.fates ≡ old.fates ++ None ∷ [] → new.batches ≡ old.batches ++ batch_in batch ∷ []
        → new.encodings ≡ old.encodings ++ encoded batch ∷ []
        → new.transactions ≡ old.transactions + length batch.transactions → new.bytes ≡ old.bytes + length (encoded batch)
        → new.transactions ≤ 20000 → new.bytes ≤ 12582912 → IsSifted accepts (done ++ batch ∷ []) new
    sifted_in old new is fits fates batches encodings transactions bytes few small =
        let roomy = roomy_of (good_of accepts done) in record {
          fates = fates ∙ ap (λ fates. fates ++ None ∷ []) is.fates ∙ sym (fates_more true fits);
          batches = batches ∙ ap (λ others. others ++ batch_in batch ∷ []) is.batches ∙ sym (map_push batch_in roomy batch)
              ∙ ap (map batch_in) (sym (roomy_in fits));
          encodings = encodings ∙ ap (λ others. others ++ encoded batch ∷ []) is.encodings ∙ sym (map_push encoded roomy batch)
              ∙ ap (map encoded) (sym (roomy_in fits));
          transactions = transactions ∙ ap (λ n. n + length batch.transactions) is.transactions
              ∙ sym (sum_by_push (λ (batch : Batch). length batch.transactions) roomy batch) ∙ ap transactions_in (sym (roomy_in fits));
          bytes = bytes ∙ ap (λ n. n + length (encoded batch)) is.bytes
              ∙ sym (sum_by_push (λ (batch : Batch). length (encoded batch)) roomy batch) ∙ ap bytes_in (sym (roomy_in fits));
          few = few;
          small = small;
        }

-- whether a batch finds room, by what was counted
pub room_counted : (accepts : List ℕ → List ℕ → List ℕ → Bool) (done : List Batch) (batch : Batch) (old : Sifted) → IsSifted accepts done old
    → finds_room (roomy_of (good_of accepts done)) batch
    ≡ (nat_le (old.transactions + length batch.transactions) 20000 && nat_le (old.bytes + length (encoded batch)) 12582912)
room_counted accepts done batch old is = rw (is.transactions, is.bytes) refl
