use Rattle.std.proofs.Common.{◌≡◌, length, map}
use Rattle.saw_words.specs.Given.{are_options, options_in}
use Rattle.saw_words.proofs.options.are_of.Given as goal

-- all words are such options where those that are left are
abbrev pub invariant-loop-first : goal.invariant-loop-first
invariant-loop-first l =
    are_options (map (λ name. name.now) l.names) (options_in l.fn.words) ≡ are_options (map (λ name. name.now) l.names) (options_in l.words)

abbrev pub decreases-loop-first : goal.decreases-loop-first
decreases-loop-first l = length l.words
