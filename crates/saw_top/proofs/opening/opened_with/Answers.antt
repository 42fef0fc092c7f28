use Rattle.std.proofs.Common.{List, false, ℕ, Option, Some, unwrap_or, ◌≡◌, sym, ap, subst}
use Rattle.saw_words.specs.Given.{are_options, options_in}
use Rattle.saw_top.specs.Opening.{opened_by}
use Rattle.saw_top.specs.Table.{options_of}
use Rattle.saw_top.specs.declared.opening.Wish.{Wish}
use Rattle.saw_top.specs.declared.opening.Wish.TheVariants.{Plain}
use Rattle.saw_top.proofs.OptionWords.{refused}
use Rattle.saw_top.proofs.opening.opened_with.Goals as goal

pub returns-in-None : goal.returns-in-None
returns-in-None c =
    let words = options_in c.args.options.now in
    let not = subst (λ (names : List (List ℕ)). are_options names words ≡ false) c.options.ensures c.in-None.ensures in
    sym (ap (λ (o : Option Wish). unwrap_or o Plain) (refused (options_of c.args.kind) (λ value. Some (opened_by c.args.kind value)) words not))
