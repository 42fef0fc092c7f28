use Rattle.std.proofs.Common.{ap, ◌∙◌}
use Rattle.saw_ids.specs.Sets.{mark_of}
use Rattle.saw_ids.proofs.Parting.{has-few}
use Rattle.saw_ids.proofs.set.+has.Goals as goal

pub returns-in-Few : goal.returns-in-Few
returns-in-Few t c =
    c.is_one_of.ensures
    ∙ has-few c.args.tree.now c.in-Few.bit c.in-Few.ids c.as_slice.result.now c.args.id.now c.mark_of.result c.in-Few.is c.as_slice.ensures
    (c.mark_of.ensures ∙ ap mark_of c.as_str.ensures)
