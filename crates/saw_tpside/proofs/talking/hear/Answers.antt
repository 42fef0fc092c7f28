use Rattle.std.proofs.Common.{◌≡◌, ℕ, List, [], ◌∷◌, ◌++◌, ap, ◌∙◌}
use Rattle.saw_link.specs.declared.passed.Passed.{Passed}
use Rattle.saw_link.specs.declared.passed.Passed.TheVariants.{Sent}
use Rattle.saw_tpside.proofs.Coming.{has_given_up, has_heard}
use Rattle.saw_tpside.proofs.talking.hear.Goals as goal

pub returns-in_err-advance-clause-come : goal.returns-in_err-advance-clause-come
returns-in_err-advance-clause-come c =
    has_given_up c.args.passed.now.items c.reserve.new.self.items c.args.serving.now c.advance.new.serving c.reserve.ensures.items c.in_err-advance.ensures.err

pub returns-clause-come : goal.returns-clause-come
returns-clause-come c =
    has_heard c.args.passed.now.items c.put.new.list.items c.args.serving.now c.advance.new.serving c.args.frame.now
    (c.put.ensures ∙ ap (λ (told : List Passed). told ++ Sent c.in_ok-kept.kept ∷ []) c.reserve.ensures.items
    ∙ ap (λ (frame : List ℕ). c.args.passed.now.items ++ Sent frame ∷ []) c.in_ok-kept.ensures)
    c.in_ok-advance.ensures.ok
