-- Numbers among the options.
use Rattle.std.specs.Prelude.{ℕ, List, Option, Some, None}
use Rattle.saw_words.specs.Numbers.{number_in}

-- 1 to 64 workers, and 4 where none are given
abbrev pub workers_in : Option (List ℕ) → Option ℕ
workers_in None = Some 4
workers_in (Some text) = number_in 1 64 text

-- a number from the first to the last, that must be given
abbrev pub required : ℕ → ℕ → Option (List ℕ) → Option ℕ
required first last None = None
required first last (Some text) = number_in first last text

-- 0 to 100 of a hundred, and 10 where none are given
abbrev pub conflicts_in : Option (List ℕ) → Option ℕ
conflicts_in None = Some 10
conflicts_in (Some text) = number_in 0 100 text
