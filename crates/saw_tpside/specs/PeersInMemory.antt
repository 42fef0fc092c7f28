-- A peer in memory, as its link shows it.
use Rattle.std.specs.Prelude.{ℕ, List, Option}
use Rattle.saw_link.specs.declared.passed.Passed.{Passed}
use Rattle.saw_tpside.specs.declared.serving.Serving.{Serving}

-- how it stands, none once a frame was not legal; what passed; the calls that fail, by their numbers; how many calls there
-- were, sending and receiving together; and how many of them failed
pub record Peer : Type 0 where
  pub serving : Option Serving
  pub passed : List Passed
  pub fail : List ℕ
  pub calls : ℕ
  pub faults : ℕ
