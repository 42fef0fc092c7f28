-- Which addresses a prefix covers, and which prefixes overlap.
use Rattle.std.specs.Prelude.{ℕ, Bool, ◌||◌, List, nat_eq}
use Rattle.std.specs.List.{starts_with}

-- a prefix covers an address that begins with it
abbrev pub covers : List ℕ → List ℕ → Bool
covers prefix address = starts_with nat_eq address prefix

-- two prefixes overlap where one begins the other
abbrev pub overlaps : List ℕ → List ℕ → Bool
overlaps first second = covers first second || covers second first
