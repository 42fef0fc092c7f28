-- Whether two transactions are the same.
use Rattle.std.specs.Prelude.{ℕ, Bool, ◌&&◌, List}
use Rattle.std.specs.Cmp.Lexicographic.{pointwise}
use Rattle.std.specs.Str.{bytes_eq}
use Rattle.saw_messages.specs.TxShapes.{TxShape}
use Rattle.saw_messages.specs.declared.transaction.TransactionHeader.{TransactionHeader}

abbrev pub texts_eq : List (List ℕ) → List (List ℕ) → Bool
texts_eq first second = pointwise bytes_eq first second

abbrev pub header_eq : TransactionHeader → TransactionHeader → Bool
header_eq first second =
    bytes_eq first.batcher_public_key second.batcher_public_key
    && (texts_eq first.dependencies second.dependencies
    && (bytes_eq first.family_name second.family_name
    && (bytes_eq first.family_version second.family_version
    && (texts_eq first.inputs second.inputs
    && (bytes_eq first.nonce second.nonce
    && (texts_eq first.outputs second.outputs
    && (bytes_eq first.payload_sha512 second.payload_sha512
    && bytes_eq first.signer_public_key second.signer_public_key)))))))

-- each part of one is that of the other
unfoldable pub tx_eq : TxShape → TxShape → Bool
tx_eq first second =
    bytes_eq first.id second.id && (header_eq first.header second.header
    && (bytes_eq first.header_bytes second.header_bytes && bytes_eq first.payload second.payload))
