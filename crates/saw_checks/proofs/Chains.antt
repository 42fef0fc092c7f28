-- Four groups of tests in order: the first that finds a fault decides.
use Rattle.std.proofs.Common.{◌≡◌, Option, Some, None, ap, ◌∙◌}
use Rattle.saw_checks.specs.Tests.{◌<|>◌}

module _ {F : Type 0} {total : Option F} (a b c d : Option F) (whole : total ≡ a <|> (b <|> (c <|> d))) where
  pub at_first : (fault : F) → a ≡ Some fault → total ≡ Some fault
  at_first fault e = whole ∙ ap (λ (one : Option F). one <|> (b <|> (c <|> d))) e

  module _ (no_first : a ≡ None) where
    past_first : total ≡ b <|> (c <|> d)
    past_first = whole ∙ ap (λ (one : Option F). one <|> (b <|> (c <|> d))) no_first

    pub at_second : (fault : F) → b ≡ Some fault → total ≡ Some fault
    at_second fault e = past_first ∙ ap (λ (one : Option F). one <|> (c <|> d)) e

    module _ (no_second : b ≡ None) where
      past_second : total ≡ c <|> d
      past_second = past_first ∙ ap (λ (one : Option F). one <|> (c <|> d)) no_second

      pub at_third : (fault : F) → c ≡ Some fault → total ≡ Some fault
      at_third fault e = past_second ∙ ap (λ (one : Option F). one <|> d) e

      pub at_fourth : (last : Option F) → c ≡ None → d ≡ last → total ≡ last
      at_fourth last no_third e = past_second ∙ ap (λ (one : Option F). one <|> d) no_third ∙ e
