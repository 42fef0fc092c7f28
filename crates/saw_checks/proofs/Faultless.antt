-- No fault means that all is good.
use Rattle.std.proofs.Common.{◌≡◌, ℕ, zero, suc, ◌+◌, ◌<◌, Bool, true, false, List, [], ◌∷◌, ◌++◌, length, Option, Some, None, Result, Ok, Err, refl}
use Rattle.std.proofs.Common.{sym, ap, ◌∙◌, arith}
use Rattle.std.specs.Prelude.{◌==◌, not, nat_lt, option_map, if◌then◌else◌}
use Rattle.std.specs.Cmp.Lexicographic.{nat_list_eq_equiv}
use Rattle.std.specs.List.{AllByRecursion, list_any}
use Rattle.std.specs.Str.{bytes_eq}
use Rattle.std.proofs.lemmas.Bool.{eqb-false, le-ltb, ltb-false, ne_eqb, not-false, not_from_true, or_from, or_parts}
use Rattle.std.proofs.lemmas.Slice.Eq.{bytes_eq-Decides}
use Rattle.hex.specs.Hex.{encode_lower}
use Rattle.sha2.specs.Sha512.{sha512}
use Rattle.saw_address.specs.Texts.{is_hex_text}
use Rattle.saw_wire.specs.declared.fault.MessageFault.{MessageFault}
use Rattle.saw_messages.specs.Batches.{batch_header}
use Rattle.saw_messages.specs.Blocks.{block, block_header}
use Rattle.saw_messages.specs.Distinct.{are_distinct}
use Rattle.saw_messages.specs.Transactions.{transaction_header}
use Rattle.saw_messages.specs.declared.batch.Batch.{Batch}
use Rattle.saw_messages.specs.declared.batch.BatchHeader.{BatchHeader}
use Rattle.saw_messages.specs.declared.block.Block.{Block}
use Rattle.saw_messages.specs.declared.block.BlockHeader.{BlockHeader}
use Rattle.saw_messages.specs.declared.transaction.Transaction.{Transaction}
use Rattle.saw_messages.specs.declared.transaction.TransactionHeader.{TransactionHeader}
use Rattle.saw_checks.specs.declared.fault.BatchFault.TheVariants as faults
use Rattle.saw_checks.specs.declared.fault.StructureFault.TheVariants as structures
use Rattle.saw_checks.specs.BatchFaults.{batch_fault, batch_fault_by, batch_tests, ids_of, max_declared, tx_fault, tx_fault_by, tx_tests, txs_fault}
use Rattle.saw_checks.specs.StructureFaults.{batch_ids_of, batches_fault, block_tests, max_transactions, structure_fault, structure_fault_by}
use Rattle.saw_checks.specs.StructureFaults.{structure_fault_of, transactions_count}
use Rattle.saw_checks.specs.Laws.{IsGoodTx, IsGoodBatch, IsGoodBlock, FaultlessBatchIsGood, FaultlessBlockIsGood}
use Rattle.saw_checks.specs.Repeats.{repeats_after}
use Rattle.saw_checks.specs.Tests.{first_of, ◌<|>◌, first_difference}
use Rattle.saw_checks.proofs.Repeats.{repeats_whole}

-- ---- tests in order

passes : {F : Type 0} (b : Bool) (fault : F) (others : Option F) → (if b then Some fault else others) ≡ None → (b ≡ false) × (others ≡ None)
passes true fault others e = absurd cc
passes false fault others e = (refl, e)

passed : {F : Type 0} (b : Bool) (fault : F) (others : Option F) → b ≡ false → others ≡ None → (if b then Some fault else others) ≡ None
passed b fault others h e = rw h e

neither : {F : Type 0} (a b : Option F) → (a <|> b) ≡ None → (a ≡ None) × (b ≡ None)
neither None b e = (refl, e)
neither (Some fault) b e = absurd cc

both_none : {F : Type 0} (a b : Option F) → a ≡ None → b ≡ None → (a <|> b) ≡ None
both_none a b x y = rw x y

map_none : {A B : Type 0} (f : A → B) (o : Option A) → option_map f o ≡ None → o ≡ None
map_none f None e = refl
map_none f (Some x) e = absurd cc

none_map : {A B : Type 0} (f : A → B) (o : Option A) → o ≡ None → option_map f o ≡ None
none_map f o e = ap (option_map f) e

same_bytes : (a b : List ℕ) → not (bytes_eq a b) ≡ false → a ≡ b
same_bytes a b h = (bytes_eq-Decides a b).0 (not-false (bytes_eq a b) h)

equal_bytes : (a b : List ℕ) → a ≡ b → not (bytes_eq a b) ≡ false
equal_bytes a b e = not_from_true (bytes_eq a b) ((bytes_eq-Decides a b).1 e)

-- ---- two lists of ids

same_first : (b : Bool) (x y : List ℕ) (xs ys : List (List ℕ)) → bytes_eq x y ≡ b
    → (if b then option_map suc (first_difference xs ys) else Some 0) ≡ None → (first_difference xs ys ≡ None → xs ≡ ys) → x ∷ xs ≡ y ∷ ys
same_first true x y xs ys same e later =
    let first : x ≡ y = (bytes_eq-Decides x y).0 same in
    let others : xs ≡ ys = later (map_none suc (first_difference xs ys) e) in
    cc
same_first false x y xs ys same e later = absurd cc

same_lists : (xs ys : List (List ℕ)) → first_difference xs ys ≡ None → xs ≡ ys
same_lists [] [] e = refl
same_lists [] (y ∷ ys) e = absurd cc
same_lists (x ∷ xs) [] e = absurd cc
same_lists (x ∷ xs) (y ∷ ys) e = same_first (bytes_eq x y) x y xs ys refl e (same_lists xs ys)

no_difference : (xs : List (List ℕ)) → first_difference xs xs ≡ None
no_difference [] = refl
no_difference (x ∷ xs) = rw (nat_list_eq_equiv.refl x) (none_map suc (first_difference xs xs) (no_difference xs))

equal_lists : (xs ys : List (List ℕ)) → xs ≡ ys → first_difference xs ys ≡ None
equal_lists xs ys e = ap (first_difference xs) (sym e) ∙ no_difference xs

module _ (accepts : List ℕ → List ℕ → List ℕ → Bool) where
  -- ---- a transaction

  module _ (signer : List ℕ) where
    tested : (earlier : List (List ℕ)) (t : ℕ) (tx : Transaction) (header : TransactionHeader) → transaction_header tx.header ≡ Ok header
        → first_of (tx_tests accepts signer earlier t tx header) ≡ None
        → IsGoodTx accepts signer tx × (list_any (λ id. bytes_eq id tx.header_signature) earlier ≡ false)
    tested earlier t tx header is none =
        let a = passes (not (is_hex_text 128 tx.header_signature)) _ _ none in
        let b = passes (not (is_hex_text 66 header.signer_public_key)) _ _ a.1 in
        let c = passes (not (bytes_eq header.payload_sha512 (encode_lower (sha512 tx.payload)))) _ _ b.1 in
        let d = passes (not (bytes_eq header.batcher_public_key signer)) _ _ c.1 in
        let e = passes (not (accepts header.signer_public_key tx.header tx.header_signature)) _ _ d.1 in
        let f = passes (list_any (λ id. bytes_eq id tx.header_signature) earlier) _ _ e.1 in
        let g = passes (nat_lt max_declared (length header.inputs + length header.outputs)) _ _ f.1 in (
          record {
            header = header;
            decoded = is;
            id = not-false (is_hex_text 128 tx.header_signature) a.0;
            key = not-false (is_hex_text 66 header.signer_public_key) b.0;
            digest = same_bytes header.payload_sha512 (encode_lower (sha512 tx.payload)) c.0;
            batcher = same_bytes header.batcher_public_key signer d.0;
            signed = not-false (accepts header.signer_public_key tx.header tx.header_signature) e.0;
            declares = ltb-false max_declared (length header.inputs + length header.outputs) g.0;
          },
          f.0,
        )

    read_and_tested : (earlier : List (List ℕ)) (t : ℕ) (tx : Transaction) (found : Result TransactionHeader MessageFault)
        → transaction_header tx.header ≡ found → tx_fault_by accepts signer earlier t tx found ≡ None
        → IsGoodTx accepts signer tx × (list_any (λ id. bytes_eq id tx.header_signature) earlier ≡ false)
    read_and_tested earlier t tx (Ok header) is none = tested earlier t tx header is none
    read_and_tested earlier t tx (Err e) is none = absurd cc

    tx_good : (earlier : List (List ℕ)) (t : ℕ) (tx : Transaction) → tx_fault accepts signer earlier t tx ≡ None → IsGoodTx accepts signer tx
        × (list_any (λ id. bytes_eq id tx.header_signature) earlier ≡ false)
    unfolding tx_fault
    tx_good earlier t tx none = read_and_tested earlier t tx (transaction_header tx.header) refl none

    good_tx : (earlier : List (List ℕ)) (t : ℕ) (tx : Transaction) → IsGoodTx accepts signer tx
        → list_any (λ id. bytes_eq id tx.header_signature) earlier ≡ false → tx_fault accepts signer earlier t tx ≡ None
    unfolding tx_fault
    good_tx earlier t tx good fresh =
        ap (tx_fault_by accepts signer earlier t tx) good.decoded
        ∙ passed _ _ _ (not_from_true (is_hex_text 128 tx.header_signature) good.id)
        (passed _ _ _ (not_from_true (is_hex_text 66 good.header.signer_public_key) good.key)
        (passed _ _ _ (equal_bytes good.header.payload_sha512 (encode_lower (sha512 tx.payload)) good.digest)
        (passed _ _ _ (equal_bytes good.header.batcher_public_key signer good.batcher)
        (passed _ _ _ (not_from_true (accepts good.header.signer_public_key tx.header tx.header_signature) good.signed)
        (passed _ _ _ fresh
        (passed _ _ _ (le-ltb max_declared (length good.header.inputs + length good.header.outputs) good.declares) refl))))))

    txs_good : (txs : List Transaction) (earlier : List (List ℕ)) (t : ℕ) → txs_fault accepts signer earlier t txs ≡ None
        → AllByRecursion (IsGoodTx accepts signer) txs × (repeats_after earlier (ids_of txs) ≡ false)
    txs_good [] earlier t none = (tt, refl)
    txs_good (tx ∷ txs) earlier t none =
        let parts = neither (tx_fault accepts signer earlier t tx) (txs_fault accepts signer (earlier ++ tx.header_signature ∷ []) (t + 1) txs) none in
        let one = tx_good earlier t tx parts.0 in
        let others = txs_good txs (earlier ++ tx.header_signature ∷ []) (t + 1) parts.1 in (
          (one.0, others.0),
          or_from (list_any (λ id. bytes_eq id tx.header_signature) earlier)
              (repeats_after (earlier ++ tx.header_signature ∷ []) (ids_of txs)) one.1 others.1,
        )

    good_txs : (txs : List Transaction) (earlier : List (List ℕ)) (t : ℕ) → AllByRecursion (IsGoodTx accepts signer) txs
        → repeats_after earlier (ids_of txs) ≡ false → txs_fault accepts signer earlier t txs ≡ None
    good_txs [] earlier t all fresh = refl
    good_txs (tx ∷ txs) earlier t all fresh =
        let parts = or_parts (list_any (λ id. bytes_eq id tx.header_signature) earlier)
        (repeats_after (earlier ++ tx.header_signature ∷ []) (ids_of txs)) fresh in
        both_none (tx_fault accepts signer earlier t tx) (txs_fault accepts signer (earlier ++ tx.header_signature ∷ []) (t + 1) txs)
        (good_tx earlier t tx all.0 parts.0)
        (good_txs txs (earlier ++ tx.header_signature ∷ []) (t + 1) all.1 parts.1)

  -- ---- a batch

  batch_tested : (batch : Batch) (found : Result BatchHeader MessageFault) → batch_header batch.header ≡ found
      → batch_fault_by accepts batch found ≡ None → IsGoodBatch accepts batch
  batch_tested batch (Err e) is none = absurd cc
  batch_tested batch (Ok header) is none =
      let texts = first_of (batch_tests batch header) in
      let ids = option_map faults.IdsDiffer (first_difference header.transaction_ids (ids_of batch.transactions)) in
      let txs = txs_fault accepts header.signer_public_key [] 0 batch.transactions in
      let first = neither texts _ none in
      let second = neither ids _ first.1 in
      let third = neither txs _ second.1 in
      let a = passes (not (is_hex_text 128 batch.header_signature)) _ _ first.0 in
      let b = passes (not (is_hex_text 66 header.signer_public_key)) _ _ a.1 in
      let c = passes (length batch.transactions == 0) _ _ b.1 in
      let each = txs_good header.signer_public_key batch.transactions [] 0 third.0 in
      let last = passes (not (accepts header.signer_public_key batch.header batch.header_signature)) _ _ third.1 in
      record {
        header = header;
        decoded = is;
        id = not-false (is_hex_text 128 batch.header_signature) a.0;
        key = not-false (is_hex_text 66 header.signer_public_key) b.0;
        some = positive (length batch.transactions) (eqb-false (length batch.transactions) 0 c.0);
        listed = same_lists header.transaction_ids (ids_of batch.transactions)
            (map_none faults.IdsDiffer (first_difference header.transaction_ids (ids_of batch.transactions)) second.0);
        txs = each.0;
        differ = not-false (are_distinct (ids_of batch.transactions)) (sym (repeats_whole (ids_of batch.transactions)) ∙ each.1);
        signed = not-false (accepts header.signer_public_key batch.header batch.header_signature) last.0;
      }
    where
      positive : (n : ℕ) → (n ≡ 0 → ⊥) → 0 < n
      positive zero h = absurd (h refl)
      positive (suc n) h = omega arith

  batch_good : (batch : Batch) → batch_fault accepts batch ≡ None → IsGoodBatch accepts batch
  unfolding batch_fault
  batch_good batch none = batch_tested batch (batch_header batch.header) refl none

  good_batch : (batch : Batch) → IsGoodBatch accepts batch → batch_fault accepts batch ≡ None
  unfolding batch_fault
  good_batch batch good =
      let key = good.header.signer_public_key in
      ap (batch_fault_by accepts batch) good.decoded
      ∙ both_none (first_of (batch_tests batch good.header)) _
      (passed _ _ _ (not_from_true (is_hex_text 128 batch.header_signature) good.id)
      (passed _ _ _ (not_from_true (is_hex_text 66 key) good.key)
      (passed _ _ _ (ne_eqb (length batch.transactions) 0 (λ none. absurd (omega (arith, good.some, none)))) refl)))
      (both_none (option_map faults.IdsDiffer (first_difference good.header.transaction_ids (ids_of batch.transactions))) _
      (none_map faults.IdsDiffer (first_difference good.header.transaction_ids (ids_of batch.transactions))
      (equal_lists good.header.transaction_ids (ids_of batch.transactions) good.listed))
      (both_none (txs_fault accepts key [] 0 batch.transactions) _
      (good_txs key batch.transactions [] 0 good.txs (repeats_whole (ids_of batch.transactions)
      ∙ not_from_true (are_distinct (ids_of batch.transactions)) good.differ))
      (passed _ _ _ (not_from_true (accepts key batch.header batch.header_signature) good.signed) refl)))

  pub faultless_batch : FaultlessBatchIsGood accepts
  faultless_batch batch = (batch_good batch, good_batch batch)

  -- ---- a block

  batches_good : (batches : List Batch) (k : ℕ) → batches_fault accepts k batches ≡ None → AllByRecursion (IsGoodBatch accepts) batches
  batches_good [] k none = tt
  batches_good (batch ∷ batches) k none =
      let parts = neither (option_map (structures.Batch k) (batch_fault accepts batch)) (batches_fault accepts (k + 1) batches) none in
      (batch_good batch (map_none (structures.Batch k) (batch_fault accepts batch) parts.0), batches_good batches (k + 1) parts.1)

  good_batches : (batches : List Batch) (k : ℕ) → AllByRecursion (IsGoodBatch accepts) batches → batches_fault accepts k batches ≡ None
  good_batches [] k all = refl
  good_batches (batch ∷ batches) k all =
      both_none (option_map (structures.Batch k) (batch_fault accepts batch)) (batches_fault accepts (k + 1) batches)
      (none_map (structures.Batch k) (batch_fault accepts batch) (good_batch batch all.0))
      (good_batches batches (k + 1) all.1)

  header_tested : (bytes : List ℕ) (b : Block) (found : Result BlockHeader MessageFault) → block bytes ≡ Ok b → block_header b.header ≡ found
      → structure_fault_by accepts b found ≡ None → IsGoodBlock accepts bytes
  header_tested bytes b (Err e) read is none = absurd cc
  header_tested bytes b (Ok header) read is none =
      let first = neither (first_of (block_tests b header)) _ none in
      let second = neither (option_map structures.BatchIds (first_difference header.batch_ids (batch_ids_of b.batches))) _ first.1 in
      let third = neither (batches_fault accepts 0 b.batches) _ second.1 in
      let a = passes (not (is_hex_text 128 b.header_signature)) _ _ first.0 in
      let c = passes (not (is_hex_text 66 header.signer_public_key)) _ _ a.1 in
      let d = passes (nat_lt max_transactions (transactions_count b.batches)) _ _ c.1 in
      let last = passes (not (accepts header.signer_public_key b.header b.header_signature)) _ _ third.1 in
      record {
        read = b;
        header = header;
        decoded = read;
        header_decoded = is;
        id = not-false (is_hex_text 128 b.header_signature) a.0;
        key = not-false (is_hex_text 66 header.signer_public_key) c.0;
        few = ltb-false max_transactions (transactions_count b.batches) d.0;
        listed = same_lists header.batch_ids (batch_ids_of b.batches)
            (map_none structures.BatchIds (first_difference header.batch_ids (batch_ids_of b.batches)) second.0);
        batches = batches_good b.batches 0 third.0;
        signed = not-false (accepts header.signer_public_key b.header b.header_signature) last.0;
      }

  block_tested : (bytes : List ℕ) (found : Result Block MessageFault) → block bytes ≡ found → structure_fault_of accepts found ≡ None
      → IsGoodBlock accepts bytes
  block_tested bytes (Err e) is none = absurd cc
  block_tested bytes (Ok b) is none = header_tested bytes b (block_header b.header) is refl none

  block_good : (bytes : List ℕ) → structure_fault accepts bytes ≡ None → IsGoodBlock accepts bytes
  unfolding structure_fault
  block_good bytes none = block_tested bytes (block bytes) refl none

  good_block : (bytes : List ℕ) → IsGoodBlock accepts bytes → structure_fault accepts bytes ≡ None
  unfolding structure_fault
  good_block bytes good =
      let b = good.read in
      let key = good.header.signer_public_key in
      ap (structure_fault_of accepts) good.decoded
      ∙ ap (structure_fault_by accepts b) good.header_decoded
      ∙ both_none (first_of (block_tests b good.header)) _
      (passed _ _ _ (not_from_true (is_hex_text 128 b.header_signature) good.id)
      (passed _ _ _ (not_from_true (is_hex_text 66 key) good.key)
      (passed _ _ _ (le-ltb max_transactions (transactions_count b.batches) good.few) refl)))
      (both_none (option_map structures.BatchIds (first_difference good.header.batch_ids (batch_ids_of b.batches))) _
      (none_map structures.BatchIds (first_difference good.header.batch_ids (batch_ids_of b.batches))
      (equal_lists good.header.batch_ids (batch_ids_of b.batches) good.listed))
      (both_none (batches_fault accepts 0 b.batches) _
      (good_batches b.batches 0 good.batches)
      (passed _ _ _ (not_from_true (accepts key b.header b.header_signature) good.signed) refl)))

  pub faultless_block : FaultlessBlockIsGood accepts
  faultless_block bytes = (block_good bytes, good_block bytes)
