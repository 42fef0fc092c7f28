-- Transactions and batches of a generated stream, each signed by the one signer.
use Rattle.std.specs.Prelude.{ℕ, false, List, [], ◌∷◌, ◌++◌, map, codes}
use Rattle.std.specs.Fmt.{decimal}
use Rattle.hex.specs.Hex.{encode_lower}
use Rattle.sha2.specs.Sha512.{sha512}
use Rattle.saw_wire.specs.Writing.{spelled}
use Rattle.saw_messages.specs.Batches.{batch_header_pieces}
use Rattle.saw_messages.specs.Transactions.{transaction_header_pieces}
use Rattle.saw_messages.specs.declared.batch.Batch.{Batch}
use Rattle.saw_messages.specs.declared.transaction.Transaction.{Transaction}
use Rattle.saw_messages.specs.declared.transaction.TransactionHeader.{TransactionHeader}
use Rattle.saw_intkey.specs.Actions.{address_of, family_name, family_version}
use Rattle.saw_intkey.specs.Payloads.{payload_bytes}
use Rattle.saw_intkey.specs.declared.payload.Payload.{Payload}
use Rattle.saw_publish.specs.Candidates.{Signing}
use Rattle.saw_generate.specs.Operations.{first_of, second_of}
use Rattle.saw_generate.specs.declared.wish.GenerateWish.{GenerateWish}

-- of transaction t of batch k of block b
abbrev pub nonce_at : ℕ → ℕ → ℕ → List ℕ
nonce_at b k t = decimal b ++ codes "/" ++ decimal k ++ codes "/" ++ decimal t

-- the one address that is read and written
abbrev pub declared : Payload → List (List ℕ)
declared payload = encode_lower (address_of payload.name) ∷ []

-- the header of a transaction: no dependencies, and its batch has the same signer
abbrev pub header_of : List ℕ → List ℕ → Payload → TransactionHeader
header_of key nonce payload = record {
  batcher_public_key = key;
  dependencies = [];
  family_name = family_name;
  family_version = family_version;
  inputs = declared payload;
  nonce = nonce;
  outputs = declared payload;
  payload_sha512 = encode_lower (sha512 (payload_bytes payload));
  signer_public_key = key;
}

abbrev pub header_bytes : List ℕ → List ℕ → Payload → List ℕ
header_bytes key nonce payload = spelled (transaction_header_pieces (header_of key nonce payload))

abbrev pub transaction : Signing → List ℕ → Payload → Transaction
transaction signing nonce payload = record {
  header = header_bytes signing.key nonce payload;
  header_signature = signing.signature (header_bytes signing.key nonce payload);
  payload = payload_bytes payload;
}

-- the bytes of the header of a batch
abbrev pub batch_header : List ℕ → List Transaction → List ℕ
batch_header key txs =
    spelled (batch_header_pieces (record { signer_public_key = key; transaction_ids = map (λ tx. tx.header_signature) txs }))

abbrev pub batch_of : Signing → List Transaction → Batch
batch_of signing txs = record {
  header = batch_header signing.key txs;
  header_signature = signing.signature (batch_header signing.key txs);
  transactions = txs;
  trace = false;
}

-- batch k of block b
abbrev pub batch_at : Signing → GenerateWish → ℕ → ℕ → Batch
batch_at signing wish b k =
    batch_of signing (transaction signing (nonce_at b k 0) (first_of wish b k) ∷ transaction signing (nonce_at b k 1) (second_of wish b k) ∷ [])
