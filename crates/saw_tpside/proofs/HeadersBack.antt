-- The header of a transaction is read back from its bytes.
use Rattle.std.proofs.Common.{◌≡◌, ◌<◌, ◌^◌, ℕ, List, length, Ok, ap, ◌∙◌, subst, arith}
use Rattle.saw_messages.proofs.TransactionsBack.{transaction_header_is_read}
use Rattle.saw_messages.specs.Transactions.{transaction_header, transaction_header_pieces}
use Rattle.saw_messages.specs.declared.transaction.TransactionHeader.{TransactionHeader}
use Rattle.saw_wire.specs.Writing.{spelled}
use Rattle.saw_tpside.proofs.Fitting.{AllMay, ◌and◌, all_fit, bytes_may, texts_may}
use Rattle.saw_tpside.specs.WrittenTexts.{AreHeaderTexts}

header_may : (m : TransactionHeader) → AllMay (transaction_header_pieces m)
header_may m =
    (((((((bytes_may 1 m.batcher_public_key (omega arith, omega arith)
    and texts_may 2 m.dependencies (omega arith, omega arith))
    and bytes_may 3 m.family_name (omega arith, omega arith))
    and bytes_may 4 m.family_version (omega arith, omega arith))
    and texts_may 5 m.inputs (omega arith, omega arith))
    and bytes_may 6 m.nonce (omega arith, omega arith))
    and texts_may 7 m.outputs (omega arith, omega arith))
    and bytes_may 9 m.payload_sha512 (omega arith, omega arith))
    and bytes_may 10 m.signer_public_key (omega arith, omega arith)

pub header_back : (m : TransactionHeader) (bytes : List ℕ) → AreHeaderTexts m → bytes ≡ spelled (transaction_header_pieces m) → length bytes < 2 ^ 64
    → transaction_header bytes ≡ Ok m
header_back m bytes has is small =
    ap transaction_header is ∙ transaction_header_is_read m (record {
      batcher_public_key = has.batcher_public_key;
      dependencies = has.dependencies;
      family_name = has.family_name;
      family_version = has.family_version;
      inputs = has.inputs;
      nonce = has.nonce;
      outputs = has.outputs;
      payload_sha512 = has.payload_sha512;
      signer_public_key = has.signer_public_key;
      fits = all_fit (transaction_header_pieces m) (header_may m).each (subst (λ (l : List ℕ). length l < 2 ^ 64) is small);
    })
