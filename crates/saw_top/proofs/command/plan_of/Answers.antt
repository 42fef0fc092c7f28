-- What options of `apply` say is what clap reads of them.
use Rattle.std.proofs.Common.{◌≡◌, ℕ, List, false, true, sym, subst, ◌∙◌}
use Rattle.saw_words.specs.Given.{are_of, are_options, options_in}
use Rattle.saw_words.specs.Options.{told_by}
use Rattle.saw_top.specs.LiveWords.{options_for, plan_for}
use Rattle.saw_top.proofs.OptionWords.{made_by, refused}
use Rattle.saw_top.proofs.command.plan_of.Goals as goal

pub returns-in_default-form_of-clause-ok : goal.returns-in_default-form_of-clause-ok
returns-in_default-form_of-clause-ok c =
    let words = options_in c.args.options.now in
    let not = subst (λ (names : List (List ℕ)). are_options names words ≡ false) c.names_for-names.ensures.names c.in_default-form_of.ensures in
    rw c.in-Apply.is (sym (refused (options_for c.args.beside) (plan_for c.args.beside) words not))

pub returns-clause-ok : goal.returns-clause-ok
returns-clause-ok c =
    let form = c.in-Some.form in
    let told = told_by c.in_ok-values.values in
    let fine = subst (λ (names : List (List ℕ)). are_of names form ≡ true) c.names_for-names.ensures.names c.in-Some.ensures.1 in
    rw c.in-Apply.is
    (c.plan_for-2.ensures
    ∙ made_by (options_for c.args.beside) (plan_for c.args.beside) (options_in c.args.options.now) form told c.in-Some.ensures.0 fine c.in_ok-values.ensures)
