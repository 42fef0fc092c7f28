use Rattle.serde_json.specs.View.{view}
use Rattle.saw_rules.specs.Families.{family_in}
use Rattle.saw_rules.proofs.EachOf.{Goes}
use Rattle.saw_rules.proofs.families.families_in.Given as goal

abbrev pub invariant-loop-element : goal.invariant-loop-element
invariant-loop-element l = Goes family_in view l.families l.element-index l.elements
