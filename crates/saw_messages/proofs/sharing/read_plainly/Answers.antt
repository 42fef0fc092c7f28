use Rattle.std.proofs.Common.{map, take, get_or}
use Rattle.std.proofs.lemmas.Result.{err_from_is_err_and}
use Rattle.saw_wire.specs.declared.record.Record.{Record}
use Rattle.saw_wire.specs.declared.record.Value.TheVariants.{Varint}
use Rattle.saw_wire.specs.Pieces.{seen}
use Rattle.saw_wire.specs.Fields.{all_items, item_fault}
use Rattle.saw_messages.specs.Batches.{batch_of, batch_fault}
use Rattle.saw_wire.proofs.FieldFaults.{none_push, none_at_first, one_more}
use Rattle.saw_messages.proofs.Gathering.{part_ends, part_done}
use Rattle.saw_messages.proofs.sharing.read_plainly.Goals as goal

abbrev unread : Record
unread = record { field = 0; value = Varint 0 }

pub loop-one-init : goal.loop-one-init
loop-one-init c = record { value = c.new-kept.ensures; fine = none_at_first (item_fault batch_fault 3) }

pub loop-one-preserved : goal.loop-one-preserved
loop-one-preserved c =
    let i = c.loop-one.invariant in
    let bytes = c.args.bytes.now in
    let items = c.args.part.now in
    let more = one_more bytes items c.loop-one.one-index unread c.loop-one-test.true in
    let so_far = map (seen bytes) (take c.loop-one.one-index items) in
    let here = seen bytes (get_or items c.loop-one.one-index unread) in
    record {
      value = rw more (c.in_ok-keep_items.ensures.ok so_far i.value);
      fine = rw more (none_push (item_fault batch_fault 3) so_far here i.fine c.in_ok-keep_items.ensures.fine);
    }

pub returns-in_err-keep_items : goal.returns-in_err-keep_items
returns-in_err-keep_items c =
    let p = err_from_is_err_and c.from_residual.result c.from_residual.ensures.1 in
    rw (p.1, p.2) (part_ends (all_items batch_of 3) (item_fault batch_fault 3) c.args.bytes.now c.args.part.now c.loop-one.one-index unread c.in_err-keep_items.field-0.0
    c.loop-one-test.true c.loop-one.invariant.fine c.in_err-keep_items.ensures.err)

pub returns : goal.returns
returns c = part_done (all_items batch_of 3) (item_fault batch_fault 3) c.args.bytes.now c.args.part.now c.loop-one.one-index _
    c.loop-one-test.false c.loop-one.invariant.value c.loop-one.invariant.fine
