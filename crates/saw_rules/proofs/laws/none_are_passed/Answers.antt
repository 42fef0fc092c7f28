use Rattle.std.proofs.Common.{◌≡◌, ◌≤◌, ℕ, ◌+◌, ◌-◌, false, List, length, refl, arith, ap}
use Rattle.std.specs.Prelude.{◌||◌}
use Rattle.std.specs.List.{list_any}
use Rattle.std.proofs.lemmas.Bool.{le-ltb}
use Rattle.std.proofs.lemmas.Option.{slice_get_past}
use Rattle.saw_messages.specs.TxShapes.{TxShape}
use Rattle.saw_rules.specs.OnChainRules.{is_of_other}
use Rattle.saw_rules.proofs.laws.none_are_passed.Goals as goal

none_there : (signer : List ℕ) (earlier : ℕ) (txs : List TxShape) (index : ℕ) → earlier + length txs ≤ index → is_of_other signer earlier txs index ≡ false
none_there signer earlier txs index past =
    let behind = le-ltb index earlier (omega arith) in
    let none = slice_get_past txs (index - earlier) (omega arith) in
    rw (behind, none) refl

pub returns : goal.returns
returns c = λ signer earlier txs index indices past.
    ap (λ found. found || list_any (is_of_other signer (length earlier) txs) indices) (none_there signer (length earlier) txs index past)
