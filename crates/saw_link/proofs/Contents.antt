-- The content of a process request, by its two header fields.
use Rattle.std.proofs.Common.{◌≡◌, ℕ, List, [], ◌++◌, ◌==◌, refl}
use Rattle.std.specs.Prelude.{if◌then◌else◌}
use Rattle.saw_wire.specs.Writing.{spelled, bytes_pieces}
use Rattle.saw_messages.specs.declared.transaction.Transaction.{Transaction}
use Rattle.saw_link.specs.SentFrames.{process_content}

pub content_is : (version : ℕ) (context : List ℕ) (tx : Transaction) (none first fifth : List ℕ) → none ≡ []
    → first ≡ (if version == 2 then none else tx.header) → fifth ≡ (if version == 2 then tx.header else none)
    → spelled (bytes_pieces 1 first ++ bytes_pieces 2 tx.payload ++ bytes_pieces 3 tx.header_signature ++ bytes_pieces 4 context
    ++ bytes_pieces 5 fifth) ≡ process_content version context tx
content_is version context tx none first fifth n e f = rw (e, f, n) refl
