use Rattle.saw_top.proofs.Prefixes.{address_read}
use Rattle.saw_top.proofs.options.address_in.Goals as goal

pub returns : goal.returns
returns c = address_read c.args.text.now c.parse.result c.parse.ensures.valid c.parse.ensures.value
