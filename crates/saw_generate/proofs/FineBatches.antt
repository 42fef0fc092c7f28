-- The batches of a stream have no fault where its signatures are accepted, and they are short.
use Rattle.std.proofs.Common.{◌≡◌, ◌<◌, ◌≤◌, ℕ, Bool, true, false, List, [], ◌∷◌, ◌++◌, length, map, refl, arith}
use Rattle.std.specs.List.{AllByRecursion}
use Rattle.saw_address.specs.Texts.{is_hex_text}
use Rattle.saw_checks.specs.BatchFaults.{ids_of}
use Rattle.saw_checks.specs.Laws.{IsGoodBatch, IsGoodTx}
use Rattle.saw_intkey.specs.Payloads.{payload_bytes}
use Rattle.saw_intkey.specs.declared.payload.Payload.{Payload}
use Rattle.saw_messages.proofs.BatchesBack.{batch_header_is_read}
use Rattle.saw_messages.specs.Batches.{batch_header_pieces, batch_pieces}
use Rattle.saw_messages.specs.Distinct.{are_distinct}
use Rattle.saw_messages.specs.ReadBack.{IsBatch, IsTransaction}
use Rattle.saw_messages.specs.Transactions.{transaction_pieces}
use Rattle.saw_messages.specs.declared.batch.Batch.{Batch}
use Rattle.saw_messages.specs.declared.batch.BatchHeader.{BatchHeader}
use Rattle.saw_messages.specs.declared.transaction.Transaction.{Transaction}
use Rattle.saw_publish.proofs.Fitting.{AllMay, ◌and◌, all_fit, bytes_may, texts_may}
use Rattle.saw_publish.proofs.HexTexts.{hex_text, length-hex_text}
use Rattle.saw_publish.specs.Candidates.{Signing}
use Rattle.saw_wire.specs.Pieces.{Piece}
use Rattle.saw_wire.specs.Writing.{IsFieldNumber, spelled}
use Rattle.saw_wire.specs.Written.{flag_pieces, items_pieces}
use Rattle.saw_generate.specs.Operations.{first_of, second_of}
use Rattle.saw_generate.specs.Signed.{batch_at, batch_header, batch_of, header_bytes, header_of, nonce_at, transaction}
use Rattle.saw_generate.specs.declared.wish.GenerateWish.{GenerateWish}
use Rattle.saw_generate.proofs.Payloads.{first_short, second_short}
use Rattle.saw_generate.proofs.Reading.{IsNonce, is_nonce, read, short}
use Rattle.saw_generate.proofs.Sizes.{batch_header_short, batch_short, transaction_short}

-- the signature of a message has the right form, and is accepted
pub record IsVouched (accepts : List ℕ → List ℕ → List ℕ → Bool) (signing : Signing) (message : List ℕ) : Type 0 where
  pub form : is_hex_text 128 (signing.signature message) ≡ true
  pub signed : accepts signing.key message (signing.signature message) ≡ true

pub id_short : (id : List ℕ) → is_hex_text 128 id ≡ true → length id ≤ 128
id_short id form = omega (arith, length-hex_text 128 id form)

-- ---- pieces that may stand

transaction_may : (m : Transaction) → AllMay (transaction_pieces m)
transaction_may m =
    (bytes_may 1 m.header (omega arith, omega arith)
    and bytes_may 2 m.header_signature (omega arith, omega arith))
    and bytes_may 3 m.payload (omega arith, omega arith)

batch_header_may : (m : BatchHeader) → AllMay (batch_header_pieces m)
batch_header_may m = bytes_may 1 m.signer_public_key (omega arith, omega arith) and texts_may 2 m.transaction_ids (omega arith, omega arith)

items_may : {A : Type 0} (pieces : A → List Piece) (field : ℕ) (items : List A) → IsFieldNumber field → AllMay (items_pieces pieces field items)
items_may pieces field [] is = record { each = tt }
items_may pieces field (item ∷ items) is = record { each = ((is, tt), (items_may pieces field items is).each) }

flag_may : (flag : Bool) → AllMay (flag_pieces 4 flag)
flag_may true = record { each = (((omega arith, omega arith), omega arith), tt) }
flag_may false = record { each = tt }

batch_may : (m : Batch) → AllMay (batch_pieces m)
batch_may m =
    ((bytes_may 1 m.header (omega arith, omega arith)
    and bytes_may 2 m.header_signature (omega arith, omega arith))
    and items_may transaction_pieces 3 m.transactions (omega arith, omega arith))
    and flag_may m.trace

-- ---- a transaction, and a batch of two

-- its transactions have different ids
abbrev pub DoDiffer : Batch → Type 0
DoDiffer batch = are_distinct (ids_of batch.transactions) ≡ true

module _ (accepts : List ℕ → List ℕ → List ℕ → Bool) (signing : Signing) where
  -- all that is signed for a batch is vouched for
  abbrev pub AreVouched : Batch → Type 0
  AreVouched batch = AllByRecursion (IsVouched accepts signing) (map (λ tx. tx.header) batch.transactions ++ batch.header ∷ [])

  -- a transaction without fault, and short
  pub record IsFineTx (tx : Transaction) : Type 0 where
    pub good : IsGoodTx accepts signing.key tx
    pub is : IsTransaction tx
    pub small : length (spelled (transaction_pieces tx)) ≤ 940

  -- a batch without fault, and short
  pub record IsFineBatch (batch : Batch) : Type 0 where
    pub good : IsGoodBatch accepts batch
    pub is : IsBatch batch
    pub small : length (spelled (batch_pieces batch)) ≤ 2500
    pub two : length batch.transactions ≡ 2

  module _ (key : is_hex_text 66 signing.key ≡ true) where
    tx_fine : (nonce : List ℕ) → IsNonce nonce → (payload : Payload) → length (payload_bytes payload) ≤ 100
        → IsVouched accepts signing (header_bytes signing.key nonce payload) → IsFineTx (transaction signing nonce payload)
    tx_fine nonce is payload few vouched =
        let tx = transaction signing nonce payload in
        let small = transaction_short tx (short signing key nonce is payload) (id_short tx.header_signature vouched.form) few in
        record {
          good = record {
            header = header_of signing.key nonce payload;
            decoded = read signing key nonce is payload;
            id = vouched.form;
            key = key;
            digest = refl;
            batcher = refl;
            signed = vouched.signed;
            declares = omega arith;
          };
          is = record {
            header_signature = hex_text 128 tx.header_signature vouched.form;
            fits = all_fit (transaction_pieces tx) (transaction_may tx).each (omega (arith, small));
          };
          small = small;
        }

    both_fine : (first second : Transaction) → IsFineTx first → IsFineTx second → are_distinct (ids_of (first ∷ second ∷ [])) ≡ true
        → IsVouched accepts signing (batch_header signing.key (first ∷ second ∷ [])) → IsFineBatch (batch_of signing (first ∷ second ∷ []))
    both_fine first second one other differ vouched =
        let batch = batch_of signing (first ∷ second ∷ []) in
        let header : BatchHeader = record { signer_public_key = signing.key; transaction_ids = ids_of (first ∷ second ∷ []) } in
        let header_small =
        batch_header_short header (omega (arith, length-hex_text 66 signing.key key)) refl
        (id_short first.header_signature one.good.id, (id_short second.header_signature other.good.id, tt)) in
        let small = batch_short batch header_small (id_short batch.header_signature vouched.form) refl (one.small, (other.small, tt)) refl in
        record {
          good = record {
            header = header;
            decoded = batch_header_is_read header (record {
              signer_public_key = hex_text 66 signing.key key;
              transaction_ids = (hex_text 128 first.header_signature one.good.id, (hex_text 128 second.header_signature other.good.id, tt));
              fits = all_fit (batch_header_pieces header) (batch_header_may header).each (omega (arith, header_small));
            });
            id = vouched.form;
            key = key;
            some = omega arith;
            listed = refl;
            txs = (one.good, (other.good, tt));
            differ = differ;
            signed = vouched.signed;
          };
          is = record {
            header_signature = hex_text 128 batch.header_signature vouched.form;
            transactions = (one.is, (other.is, tt));
            fits = all_fit (batch_pieces batch) (batch_may batch).each (omega (arith, small));
          };
          small = small;
          two = refl;
        }

    -- a batch of a stream
    pub batch_fine : (wish : GenerateWish) (b k : ℕ) → b < 1000 → k < 5000 → AreVouched (batch_at signing wish b k) → DoDiffer (batch_at signing wish b k)
        → IsFineBatch (batch_at signing wish b k)
    batch_fine wish b k low small vouched differ =
        both_fine (transaction signing (nonce_at b k 0) (first_of wish b k)) (transaction signing (nonce_at b k 1) (second_of wish b k))
        (tx_fine (nonce_at b k 0) (is_nonce b k 0 (omega (arith, low)) (omega (arith, small)) (omega arith)) (first_of wish b k)
        (first_short wish b k small) vouched.0)
        (tx_fine (nonce_at b k 1) (is_nonce b k 1 (omega (arith, low)) (omega (arith, small)) (omega arith)) (second_of wish b k)
        (second_short wish b k small) vouched.1.0)
        differ vouched.1.1.0
