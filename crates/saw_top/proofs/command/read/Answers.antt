use Rattle.std.proofs.Common.{◌≡◌, ℕ, List, false, true, sym, subst, ◌∙◌}
use Rattle.saw_words.specs.Given.{are_of, are_options, options_in}
use Rattle.saw_words.specs.Options.{told_by}
use Rattle.saw_top.specs.Command.{asked_by}
use Rattle.saw_top.specs.Table.{options_of}
use Rattle.saw_top.proofs.OptionWords.{made_by, refused}
use Rattle.saw_top.proofs.command.read.Goals as goal

pub returns-in_default-clause-ok : goal.returns-in_default-clause-ok
returns-in_default-clause-ok c =
    let words = options_in c.args.options.now in
    let not = subst (λ (names : List (List ℕ)). are_options names words ≡ false) c.options-names.ensures c.in_default.ensures in
    sym (refused (options_of c.args.kind) (asked_by c.args.kind) words not)

pub returns-clause-ok : goal.returns-clause-ok
returns-clause-ok c =
    let form = c.in-Some.form in
    let fine = subst (λ (names : List (List ℕ)). are_of names form ≡ true) c.options-names.ensures c.in-Some.ensures.1 in
    c.said_by-2.ensures.said
    ∙ made_by (options_of c.args.kind) (asked_by c.args.kind) (options_in c.args.options.now) form (told_by c.in_ok-values.values) c.in-Some.ensures.0 fine
    c.in_ok-values.ensures
