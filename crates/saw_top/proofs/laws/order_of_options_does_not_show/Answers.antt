use Rattle.saw_top.proofs.OptionOrder.{order_of_options_does_not_show}
use Rattle.saw_top.proofs.laws.order_of_options_does_not_show.Goals as goal

pub returns : goal.returns
returns c = order_of_options_does_not_show
