-- The first pass and the others.
use Rattle.std.proofs.Common.{◌≡◌, ◌+◌, ◌-◌, [], false, length, ap, arith}
use Rattle.std.proofs.lemmas.List.{length-map, length-replicate}
use Rattle.saw_live.specs.Cells.{leads_to, own_cell}
use Rattle.saw_live.specs.Heads.{knows}
use Rattle.saw_live.specs.Passes.{view_of}
use Rattle.saw_top.proofs.Guests.{are_new}
use Rattle.saw_top.proofs.readers.share.Goals as goal

pub returns-clause-new : goal.returns-clause-new
returns-clause-new c =
    let made = c.in_ok-live.ensures in
    are_new (λ pass. leads_to pass ≡ own_cell c.in_ok-live.field-0.live) _ c.in_ok-live.field-0.passes.items c.remove-first.result
    c.remove-first.new.self.items made.views made.cell made.fresh c.remove-first.ensures.value c.remove-first.ensures.by_index.2

pub returns-clause-count : goal.returns-clause-count
returns-clause-count c =
    let passes = c.in_ok-live.field-0.passes in
    let made = c.in_ok-live.ensures in
    omega (
      arith,
      c.remove-first.ensures.len,
      passes.ok.0,
      c.remove-first.new.self.ok.0,
      ap length made.views,
      length-map passes.items view_of,
      length-replicate (c.args.readers + 1 - 1) (knows false []),
      c.requires.few,
    )
