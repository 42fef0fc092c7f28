use Rattle.std.proofs.Common.{map}
use Rattle.std.proofs.lemmas.Result.{err_from_is_err_and}
use Rattle.saw_wire.specs.Pieces.{seen}
use Rattle.saw_wire.proofs.FieldFaults.{wire_ends}
use Rattle.saw_messages.specs.Blocks.{block_of, block_fault}
use Rattle.saw_messages.proofs.Gathering.{gathered_reads, fault_reads}
use Rattle.saw_messages.proofs.sharing.decode_block_by.Goals as goal

pub returns-in_err-found : goal.returns-in_err-found
returns-in_err-found g c =
    let p = err_from_is_err_and c.from_residual.result c.from_residual.ensures.1 in
    rw (p.1, p.2) (fault_reads block_of block_fault c.args.bytes.now _
    (wire_ends block_fault c.args.bytes.now c.in_err-found.field-0.0 c.in_err-found.ensures.exact))

pub returns : goal.returns
returns g c = rw (
  gathered_reads block_of block_fault c.args.bytes.now (map (seen c.args.bytes.now) c.in_ok-found.found.items)
      c.in_ok-found.ensures.exact,
  ← c.as_slice.ensures.value,
) c.read_records.ensures
