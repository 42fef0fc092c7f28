use Rattle.std.proofs.Common.{None, sym, ap, ◌∙◌}
use Rattle.std.specs.Option.{option_copied}
use Rattle.saw_context.specs.Views.{layered}
use Rattle.saw_live.proofs.Layered.{value_at-layers}
use Rattle.saw_live.proofs.snapshot.Snapshot.value.Goals as goal

pub returns-in_default : goal.returns-in_default
returns-in_default g c =
    ap (λ found. layered (option_copied found) None) (sym c.in_default.is) ∙ ap (λ found. layered found None) c.get.ensures
    ∙ sym (value_at-layers c.args.self.now.layers c.args.at.now)

pub returns : goal.returns
returns g c =
    let is = ap (λ found. layered (option_copied found) None) (sym c.in-Some.is) ∙ ap (λ found. layered found None) c.get.ensures
    ∙ sym (value_at-layers c.args.self.now.layers c.args.at.now) in
    rw is at c.copy_of.ensures
