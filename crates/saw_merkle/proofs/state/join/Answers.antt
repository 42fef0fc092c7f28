use Rattle.std.proofs.Common.{refl, sym, ◌∙◌}
use Rattle.saw_merkle.proofs.Sound.{taken_again}
use Rattle.saw_merkle.proofs.state.join.Goals as goal

pub returns-then-is_new-clause-err_roots : goal.returns-then-is_new-clause-err_roots
returns-then-is_new-clause-err_roots g c =
    taken_again c.args.roots.now.keys c.insert.new.self.keys c.remove.new.self.keys c.args.root _ (sym c.if-is_new.true ∙ c.in_ok-is_new.ensures.added) refl
    c.in_ok-is_new.ensures.updates.0 c.remove.ensures.updates.0
