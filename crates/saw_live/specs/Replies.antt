-- What is told of the last head that was seen.
use Rattle.std.specs.Prelude.{◌≡◌, ℕ, ◌+◌, List, [], length, slice_get, Some}
use Rattle.std.specs.FinMap as finite
use Rattle.saw_address.specs.Maps.{AreAddresses, StateMap, value_at}
use Rattle.saw_node.specs.Trees.{root_of_map}
use Rattle.saw_live.specs.Words.{Head, head}
use Rattle.saw_live.specs.declared.reply.LiveReply.{LiveReply}
use Rattle.saw_live.specs.declared.reply.LiveReply.TheVariants.{NoHead, At}

-- no head is told where none was seen; else it is the last one, with what a map of addresses under its root has there
abbrev pub Tells : (List ℕ → List ℕ) → List ℕ → List Head → LiveReply → Type 0
Tells hash at heads NoHead = heads ≡ []
Tells hash at heads (At number id root value) =
    (length heads ≡ number + 1) × (slice_get heads number ≡ Some (head id root))
    × ((m : StateMap) × AreAddresses (finite.entries m) × (root_of_map hash m ≡ root) × (value ≡ value_at m at))
