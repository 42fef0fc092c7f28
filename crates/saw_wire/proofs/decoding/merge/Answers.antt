use Rattle.std.proofs.Common.{[], ◌∷◌, ◌++◌, map, take, get_or, append_assoc}
use Rattle.std.proofs.lemmas.Result.{err_from_is_err_and}
use Rattle.std.proofs.lemmas.List.{append-nil}
use Rattle.saw_wire.specs.declared.record.Record.{Record}
use Rattle.saw_wire.specs.declared.record.Value.TheVariants.{Varint}
use Rattle.saw_wire.specs.Pieces.{seen}
use Rattle.saw_wire.proofs.FieldFaults.{wire_ends, record_ends, all_taken, all_fine, none_push, none_at_first, one_more}
use Rattle.saw_wire.proofs.decoding.merge.Goals as goal

abbrev unread : Record
unread = record { field = 0; value = Varint 0 }

pub returns-in_err-found-clause-err : goal.returns-in_err-found-clause-err
returns-in_err-found-clause-err g c =
    let p = err_from_is_err_and c.from_residual.result c.from_residual.ensures.1 in
    rw (p.1, p.2) (wire_ends g.M.Message.fault c.args.bytes.now c.in_err-found.field-0.0 c.in_err-found.ensures.exact)

pub loop-one-init : goal.loop-one-init
loop-one-init g c = record { value = λ pieces e. rw append-nil e; fine = none_at_first g.M.Message.fault }

pub loop-one-preserved : goal.loop-one-preserved
loop-one-preserved g c =
    let i = c.loop-one.invariant in
    let bytes = c.args.bytes.now in
    let items = c.deref-one-items.result.now in
    let more = one_more bytes items c.loop-one.one-index unread c.loop-one-test.true in
    let so_far = map (seen bytes) (take c.loop-one.one-index items) in
    let here = seen bytes (get_or items c.loop-one.one-index unread) in
    record {
      value = λ pieces e. rw more (rw (← append_assoc pieces so_far (here ∷ [])) (c.in_ok-take.ensures.ok (pieces ++ so_far) (i.value pieces e)));
      fine = rw more (none_push g.M.Message.fault so_far here i.fine c.in_ok-take.ensures.fine);
    }

pub returns-in_err-take-clause-err : goal.returns-in_err-take-clause-err
returns-in_err-take-clause-err g c =
    let p = err_from_is_err_and c.from_residual-in_err-take.result c.from_residual-in_err-take.ensures.1 in
    rw (p.1, p.2) (record_ends g.M.Message.fault c.args.bytes.now c.in_ok-found.found.items c.deref-one-items.result.now c.loop-one.one-index unread
    c.in_err-take.field-0.0 c.deref-one-items.ensures.value c.in_ok-found.ensures.exact c.loop-one-test.true c.loop-one.invariant.fine
    c.in_err-take.ensures.err)

pub returns-clause-ok : goal.returns-clause-ok
returns-clause-ok g c = λ pieces e.
    let all = all_taken c.args.bytes.now c.in_ok-found.found.items c.deref-one-items.result.now c.loop-one.one-index c.deref-one-items.ensures.value
    c.loop-one-test.false c.in_ok-found.ensures.exact in
    rw (← all) (c.loop-one.invariant.value pieces e)

pub returns-clause-fine : goal.returns-clause-fine
returns-clause-fine g c = all_fine g.M.Message.fault c.args.bytes.now c.in_ok-found.found.items c.deref-one-items.result.now c.loop-one.one-index
    c.deref-one-items.ensures.value c.loop-one-test.false c.in_ok-found.ensures.exact c.loop-one.invariant.fine
