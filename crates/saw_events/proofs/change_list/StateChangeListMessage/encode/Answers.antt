use Rattle.std.proofs.Common.{[]}
use Rattle.saw_events.proofs.change_list.StateChangeListMessage.encode.Goals as goal

pub returns : goal.returns
returns c = c.in_ok-write_items.ensures [] c.new-out.ensures.items
