-- Which cell readers share.
use Rattle.atomic_table.specs.Seated.{TableId}
use Rattle.saw_live.specs.declared.live.Live.{Live}
use Rattle.saw_live.specs.declared.pass.LivePass.{LivePass}

-- the cell that a pass leads to
abbrev pub leads_to : LivePass → TableId
leads_to pass = pass.pass.table_id

-- the cell of what is shared
abbrev pub own_cell : {H : _} {g : _} → Live H g → TableId
own_cell live = live.cell.table.shared.table_id
