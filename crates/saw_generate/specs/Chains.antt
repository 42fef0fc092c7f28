-- How far a stream has come.
use Rattle.std.specs.Prelude.{◌≡◌, ℕ}
use Rattle.saw_address.specs.Maps.{map_of}
use Rattle.saw_publish.specs.Candidates.{Signing}
use Rattle.saw_generate.specs.Draws.{state_after}
use Rattle.saw_generate.specs.Operations.{draws_before}
use Rattle.saw_generate.specs.Streams.{map_after_blocks, parent_after}
use Rattle.saw_generate.specs.declared.chain.Chain.{Chain}
use Rattle.saw_generate.specs.declared.wish.GenerateWish.{GenerateWish}

-- behind so many blocks
pub record IsChain (signing : Signing) (wish : GenerateWish) (blocks : ℕ) (chain : Chain) : Type 0 where
  pub parent : chain.parent ≡ parent_after signing wish blocks
  pub left : map_of chain.base.map.entries ≡ map_after_blocks signing wish blocks
  pub drawn : chain.draws.state ≡ state_after wish.start (draws_before wish blocks 0)
