use Rattle.std.proofs.Common.{◌++◌, map, refl, ap, ◌∙◌}
use Rattle.std.specs.Arc.{arc_value}
use Rattle.std.proofs.lemmas.List.{map-append}
use Rattle.saw_rules.specs.OnChainRules.{rules_in, txs_in}
use Rattle.saw_rules.specs.Courses.{count_for}
use Rattle.saw_rules.specs.declared.onchain.OnChainRules.{OnChainRules}
use Rattle.saw_rules.proofs.Standing.{stands_more}
use Rattle.saw_rules.proofs.onchain.OnChainRules.add.Goals as goal

pub returns : goal.returns
returns c = λ m signer before batch looked are.
    let old = c.args.self.now in
    let new : OnChainRules = record {
      families = old.families;
      rules = old.rules;
      signer = old.signer;
      txs = c.append.new.self;
      counts = c.replace.result;
      next_counts = c.replace.new.dest;
    } in
    stands_more old new m signer before batch (map arc_value c.args.txs.now) looked.stands are refl refl refl
    (ap (map arc_value) c.in_ok-append.ensures.items ∙ map-append arc_value old.txs.items c.in_ok-more.more.items
    ∙ ap (λ more. map arc_value old.txs.items ++ more) c.in_ok-more.ensures)
    (ap (λ counts. counts.items) c.replace.ensures.value ∙ looked.counts ∙ ap (λ more. map (count_for (txs_in before ++ more)) (rules_in m)) are)
