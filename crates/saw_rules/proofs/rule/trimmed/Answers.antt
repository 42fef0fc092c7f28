use Rattle.std.proofs.Common.{reverse, ap, ◌∙◌}
use Rattle.saw_settings.specs.Values.{without_spaces}
use Rattle.saw_rules.proofs.Trims.{start_trimmed, end_trimmed}
use Rattle.saw_rules.proofs.rule.trimmed.Goals as goal

pub returns : goal.returns
returns c = end_trimmed c.trim_start_matches.result.now c.trim_end_matches.result.now c.trim_end_matches.ensures.matches
    ∙ ap (λ t. reverse (without_spaces (reverse t))) (start_trimmed c.args.text.now c.trim_start_matches.result.now c.trim_start_matches.ensures.matches)
