use Rattle.std.proofs.Common.{arith}
use Rattle.saw_tpside.proofs.HeadersBack.{header_back}
use Rattle.saw_tpside.proofs.process.is_read_back.Goals as goal

pub returns : goal.returns
returns c = header_back c.args.header.now c.args.bytes.now c.is_header.ensures c.requires (omega arith)
