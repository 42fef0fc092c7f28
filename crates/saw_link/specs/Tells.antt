-- What a link tells of the frames that passed.
use Rattle.std.specs.Prelude.{◌≡◌, List, ◌++◌, Option, Some, None}
use Rattle.saw_link.specs.declared.passed.Passed.{Passed}

-- what a link tells grows by this; a link that tells nothing goes on so
abbrev pub Adds : Option (List Passed) → List Passed → Option (List Passed) → Type 0
Adds None passed after = after ≡ None
Adds (Some before) passed after = after ≡ Some (before ++ passed)
