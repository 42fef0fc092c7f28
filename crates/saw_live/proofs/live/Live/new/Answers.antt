use Rattle.std.proofs.Common.{◌≡◌, ◌∷◌, [], rules, refl, ap, ◌∙◌}
use Rattle.saw_address.specs.Maps.{no_entries}
use Rattle.saw_context.proofs.Each.{all_weaker}
use Rattle.saw_context.specs.Views.{over}
use Rattle.saw_live.proofs.HeadLists.{begins}
use Rattle.saw_live.proofs.Layered.{no_layers}
use Rattle.saw_live.specs.Passes.{IsFresh, published}
use Rattle.saw_live.specs.declared.pass.LivePass.{LivePass}
use Rattle.saw_live.proofs.live.Live.new.Goals as goal

pub ruled-requires : goal.ruled-requires
ruled-requires g c = (search rules, (search rules, begins (0 ∷ 0 ∷ 0 ∷ 0 ∷ 0 ∷ 0 ∷ 0 ∷ 0 ∷ 0 ∷ 0 ∷ 0 ∷ 0 ∷ 0 ∷ []) refl))

pub with_readers-requires-clause-nothing : goal.with_readers-requires-clause-nothing
with_readers-requires-clause-nothing g c = ap (over no_entries) c.new-2.ensures ∙ no_layers

pub returns-clause-fresh : goal.returns-clause-fresh
returns-clause-fresh g c =
    all_weaker (λ (pass : LivePass). (pass.root ≡ c.in_ok-root.root) × (published pass ≡ no_entries)) (IsFresh g.H.NodeHasher.hash_of)
    (λ pass is. record { root = is.0 ∙ c.in_ok-root.ensures; map = is.1 }) c.in_ok-passes.passes.items c.in_ok-passes.ensures.nothing
