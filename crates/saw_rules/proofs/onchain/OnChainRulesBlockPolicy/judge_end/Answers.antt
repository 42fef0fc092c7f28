use Rattle.saw_rules.proofs.onchain.OnChainRulesBlockPolicy.judge_end.Goals as goal

pub returns : goal.returns
returns g c =
    let m = g.B.Base.entry c.args.parent.now in
    let families = rw c.address_of.ensures at c.get-families.ensures in
    let rules = rw c.address_of-2.ensures at c.get-rules.ensures in
    c.judge_all.ensures m _ c.args.batches.now (c.in_ok-add_all.ensures m _ (c.in_ok-course.ensures m families rules))
