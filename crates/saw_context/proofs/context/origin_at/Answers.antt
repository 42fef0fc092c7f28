use Rattle.std.proofs.Common.{sym, ◌∙◌}
use Rattle.saw_context.specs.Views.{layers_of}
use Rattle.saw_context.proofs.Origins.{origin_layer, origin_base}
use Rattle.saw_context.proofs.context.origin_at.Goals as goal

pub returns-in-Some : goal.returns-in-Some
returns-in-Some c = origin_layer c.args.own.now (layers_of c.args.view.now) c.args.at.now c.in-Some.entry.now
    (sym c.has.ensures ∙ c.if-has.false) c.in-Some.ensures

pub returns-in-None : goal.returns-in-None
returns-in-None c = origin_base c.args.own.now (layers_of c.args.view.now) c.args.at.now (sym c.has.ensures ∙ c.if-has.false) c.in-None.ensures
