use Rattle.std.proofs.Common.{map, take, get_or}
use Rattle.std.proofs.lemmas.Result.{err_from_is_err_and}
use Rattle.saw_wire.specs.declared.record.Record.{Record}
use Rattle.saw_wire.specs.declared.record.Value.TheVariants.{Varint}
use Rattle.saw_wire.specs.Pieces.{seen}
use Rattle.saw_messages.specs.Blocks.{block_of, block_fault}
use Rattle.saw_wire.proofs.FieldFaults.{none_push, none_at_first, one_more}
use Rattle.saw_messages.proofs.Gathering.{part_ends, part_done}
use Rattle.saw_messages.proofs.sharing.read_front.Goals as goal

abbrev unread : Record
unread = record { field = 0; value = Varint 0 }

pub loop-one-init : goal.loop-one-init
loop-one-init c = record { value = c.empty-block.ensures; fine = none_at_first block_fault }

pub loop-one-preserved : goal.loop-one-preserved
loop-one-preserved c =
    let i = c.loop-one.invariant in
    let bytes = c.args.bytes.now in
    let items = c.args.front.now in
    let more = one_more bytes items c.loop-one.one-index unread c.loop-one-test.true in
    let so_far = map (seen bytes) (take c.loop-one.one-index items) in
    let here = seen bytes (get_or items c.loop-one.one-index unread) in
    record {
      value = rw more (c.in_ok-take.ensures.ok so_far i.value);
      fine = rw more (none_push block_fault so_far here i.fine c.in_ok-take.ensures.fine);
    }

pub returns-in_err-take : goal.returns-in_err-take
returns-in_err-take c =
    let p = err_from_is_err_and c.from_residual.result c.from_residual.ensures.1 in
    rw (p.1, p.2) (part_ends block_of block_fault c.args.bytes.now c.args.front.now c.loop-one.one-index unread c.in_err-take.field-0.0
    c.loop-one-test.true c.loop-one.invariant.fine c.in_err-take.ensures.err)

pub returns : goal.returns
returns c = part_done block_of block_fault c.args.bytes.now c.args.front.now c.loop-one.one-index _
    c.loop-one-test.false c.loop-one.invariant.value c.loop-one.invariant.fine
