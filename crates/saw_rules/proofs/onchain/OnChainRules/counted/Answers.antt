use Rattle.std.proofs.Common.{◌++◌, map, sym, ap, ◌∙◌}
use Rattle.std.proofs.lemmas.Result.{IfOk-weaker}
use Rattle.std.specs.Arc.{arc_value}
use Rattle.saw_rules.specs.OnChainRules.{txs_in}
use Rattle.saw_rules.specs.Courses.{count_for}
use Rattle.saw_rules.proofs.onchain.OnChainRules.counted.Goals as goal

pub returns : goal.returns
returns c = λ m signer before stands.
    let all = txs_in before ++ map arc_value c.args.txs.now in
    let told = rw (c.as_slice.ensures, c.deref.ensures.value) at c.counts_behind.ensures in
    IfOk-weaker c.counts_behind.result _ _ (λ counts e. e ∙ ap (map (count_for all)) stands.rules)
    (told (txs_in before) (stands.counts ∙ ap (map (count_for (txs_in before))) (sym stands.rules)))
