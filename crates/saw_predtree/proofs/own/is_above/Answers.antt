use Rattle.std.proofs.Common.{sym, ◌∙◌}
use Rattle.saw_predtree.proofs.Owning.{one-there}
use Rattle.saw_predtree.proofs.own.is_above.Goals as goal

pub returns-in-Some : goal.returns-in-Some
returns-in-Some c = λ h. record {
  key = c.in-Some.other.now;
  one = one-there c.args.keys.now c.partition_point-count.result c.in-Some.other.now c.in-Some.ensures.lookup.3.0 c.in-Some.ensures.lookup.1;
  above = sym c.covers.ensures ∙ h;
}
