use Rattle.std.proofs.Common.{rules}
use Rattle.saw_cbor.proofs.head.is_unsupported.Goals as goal

pub returns-then-byte-eq7 : goal.returns-then-byte-eq7
returns-then-byte-eq7 c = search rules
