use Rattle.std.proofs.Common.{◌∙◌, refl, sym}
use Rattle.saw_station.proofs.Rows.{found, none_left, skipped}
use Rattle.saw_station.proofs.serving.family_of.Goals as goal

pub loop-one-init : goal.loop-one-init
loop-one-init c = refl

pub loop-one-preserved : goal.loop-one-preserved
loop-one-preserved c =
    skipped c.args.family.now c.args.version.now _ c.loop-one.one-index _ c.loop-one-test.true (sym c.is.ensures ∙ c.if-is.false) ∙ c.loop-one.invariant

pub returns : goal.returns
returns c = none_left c.args.family.now c.args.version.now _ c.loop-one.one-index c.loop-one-test.false ∙ c.loop-one.invariant
