use Rattle.std.proofs.Common.{sym, ◌∙◌}
use Rattle.saw_predtree.proofs.Owning.{one-at}
use Rattle.saw_predtree.proofs.own.is_under_last.Goals as goal

pub returns-in-Some : goal.returns-in-Some
returns-in-Some c = λ h. record {
  key = c.in-Some.last.now;
  one = one-at c.args.keys.now _ c.in-Some.last.now (sym c.in-Some.ensures.value);
  above = sym c.covers.ensures ∙ h;
}
