use Rattle.std.proofs.Common.{ℕ, List, Bor, Option, length}
use Rattle.saw_words.specs.Given.{options_in}
use Rattle.saw_words.specs.Options.{IsValueIn}
use Rattle.saw_words.proofs.options.value_of.Given as goal

-- what the words that are left have for the name, all words have
abbrev pub invariant-loop-first : goal.invariant-loop-first
invariant-loop-first l =
    (value : Option (Bor (List ℕ))) → IsValueIn l.name (options_in l.words) value → IsValueIn l.name (options_in l.fn.words) value

abbrev pub decreases-loop-first : goal.decreases-loop-first
decreases-loop-first l = length l.words
