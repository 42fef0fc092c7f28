use Rattle.std.proofs.Common.{◌≡◌, List, ℕ, sym, subst}
use Rattle.saw_predtree.specs.Searches.{AreWidest}
use Rattle.saw_predtree.proofs.Owning.{widest-in-order, widest-of-widest}
use Rattle.saw_predtree.proofs.own.widest.Goals as goal

pub returns : goal.returns
returns c =
    widest-of-widest c.args.prefixes.now c.sort_unstable.new.self.items c.args.others.now c.in_ok-kept.kept.items
    (widest-in-order c.args.prefixes.now c.args.others.now c.in_ok-all.all.items c.sort_unstable.new.self.items c.sort_unstable.ensures.permutation c.in_ok-all.ensures)
    (rw c.as_slice.ensures.value at c.in_ok-kept.ensures)
