-- What is prepared for a map that may become known.
use Rattle.std.specs.Prelude.{ℕ, List}
use Rattle.saw_runs.specs.declared.pieces.NewPiece.{NewPiece}

-- its root, and pieces of it, among them all that no known map has
pub record Preparation : Type 0 where
  pub root : List ℕ
  pub news : List NewPiece
