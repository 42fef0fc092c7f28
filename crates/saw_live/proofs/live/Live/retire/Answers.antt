use Rattle.std.proofs.Common.{rules, ap, ◌∙◌}
use Rattle.crossbeam_utils.specs.Seq.{cell_view}
use Rattle.saw_live.proofs.HeadLists.{forks, looks, met_first, retires, starts_in}
use Rattle.saw_live.specs.declared.rule.Known.{Known}
use Rattle.saw_live.proofs.live.Live.retire.Goals as goal

pub split_pass-seen-requires : goal.split_pass-seen-requires
split_pass-seen-requires g c = (search rules, (search rules, (search rules, forks _ _)))

pub join_pass-requires : goal.join_pass-requires
join_pass-requires g c = (search rules, (search rules, (search rules, retires _ _ _ _)))

pub load_as-requires : goal.load_as-requires
load_as-requires g c = (search rules, (search rules, (search rules, looks _ _)))

pub returns-clause-begins : goal.returns-clause-begins
returns-clause-begins g c =
    let now : Known = cell_view c.load_as.new.pass in
    let looked = c.load_as.ensures.rule in
    let met = looked.4 ∙ ap (λ (v : Known). v.met) c.join_pass.ensures.1 in
    starts_in now.seen _ (met_first now.seen now.met _ _ _ met (ap (λ (v : Known). v.seen) c.split_pass-seen.ensures.given.1) looked.5)
