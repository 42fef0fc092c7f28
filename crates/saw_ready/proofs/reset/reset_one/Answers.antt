use Rattle.std.proofs.Common.{set}
use Rattle.saw_ready.specs.Cursors.{IsCursor, IsDue, IsRefreshed}
use Rattle.saw_ready.specs.Resets.{IsReopened}
use Rattle.saw_ready.specs.declared.slot_state.SlotState.TheVariants.{Waiting}
use Rattle.saw_ready.proofs.Resetting.{reset-is}
use Rattle.saw_ready.proofs.reset.reset_one.Goals as goal

pub returns : goal.returns
returns c =
    let preds = c.args.layout.now.preds in
    let starts = c.args.layout.now.starts.items in
    let old = c.args.marks.now.items in
    let k = c.args.k in
    let before = c.args.cursors.now.items in
    let place = c.met_from.result in
    let cursor : IsCursor preds (set old k Waiting) c.args.end k place = rw c.deref.ensures.value at c.met_from.ensures in
    let fresh : IsRefreshed (IsDue preds (set old k Waiting) (set before k place) k) k c.args.ready.now c.refresh.new.ready =
    rw (c.deref-2.ensures.value, c.deref-3.ensures.value) at c.refresh.ensures in
    let reopened : IsReopened preds starts (set old k Waiting)
    (set before k place) k c.args.lowest.now.items c.reopen.new.lowest.items c.refresh.new.ready c.reopen.new.ready = rw
    (c.deref-4.ensures.value, c.deref-5.ensures.value) at c.reopen.ensures in
    reset-is preds starts old c.args.end k place before c.args.lowest.now.items c.reopen.new.lowest.items c.args.ready.now
    c.refresh.new.ready c.reopen.new.ready
    c.requires.layout.starts_are c.requires.layout.all_start c.requires.late c.requires.inside c.requires.cursors c.requires.lowest cursor
    fresh reopened
