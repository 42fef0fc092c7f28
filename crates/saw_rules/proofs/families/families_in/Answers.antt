use Rattle.std.proofs.Common.{map, sym, ◌∙◌}
use Rattle.serde_json.specs.View.{view}
use Rattle.saw_rules.specs.Families.{family_in}
use Rattle.saw_rules.proofs.EachOf.{goes_on, stops, ends}
use Rattle.saw_rules.proofs.FamilyLists.{families_each}
use Rattle.saw_rules.proofs.families.families_in.Goals as goal

pub returns-in-None : goal.returns-in-None
returns-in-None c =
    stops family_in view c.loop-element.families c.loop-element.element-index c.args.elements.now c.element-item.result c.loop-element-test.true
    c.element-item.is (sym c.in_ok-family.ensures ∙ c.in-None.is) c.loop-element.invariant
    ∙ sym (families_each (map view c.args.elements.now))

pub loop-element-preserved : goal.loop-element-preserved
loop-element-preserved c =
    rw c.in_ok-push-in-Some.ensures.ok (goes_on family_in view c.loop-element.families c.loop-element.element-index c.args.elements.now
    c.element-item.result c.in-Some.family c.loop-element-test.true c.element-item.is (sym c.in_ok-family.ensures ∙ c.in-Some.is) c.loop-element.invariant)

pub returns : goal.returns
returns c = ends family_in view c.loop-element.families c.loop-element.element-index c.args.elements.now c.loop-element-test.false
    c.loop-element.invariant
    ∙ sym (families_each (map view c.args.elements.now))
