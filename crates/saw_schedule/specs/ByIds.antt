-- Numbers by the ids that they stand under.
use Rattle.std.specs.Prelude.{ℕ, Bool, ◌==◌, List, [], length}
use Rattle.std.specs.BTreeMap.{BTreeMap, get_by}
use Rattle.std.specs.Cmp.Lexicographic.{slice_cmp}
use Rattle.std.specs.Global.{Global}
use Rattle.std.specs.Option.{option_map_or}
use Rattle.std.specs.Ordering.{nat_cmp}
use Rattle.std.specs.declared.vec.Vec.{Vec}
use denote.Ref.{Bor}
use Rattle.saw_messages.specs.TxShapes.{TxShape}

-- the numbers under an id
abbrev pub numbers_under : BTreeMap (Bor (List ℕ)) (Vec ℕ Global) → List ℕ → List ℕ
numbers_under numbers id = option_map_or (λ found. found.items) (get_by (λ key. slice_cmp nat_cmp id key.now) numbers) []

-- the transaction names no other
abbrev pub names_none : TxShape → Bool
names_none tx = length tx.header.dependencies == 0
