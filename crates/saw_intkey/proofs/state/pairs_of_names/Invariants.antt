use Rattle.std.proofs.Common.{◌≡◌, map}
use Rattle.saw_cbor.specs.View.{pair_view}
use Rattle.saw_intkey.proofs.Kept.{entry_pair}
use Rattle.saw_intkey.proofs.state.pairs_of_names.Given as goal

abbrev pub invariant-loop-name : goal.invariant-loop-name
invariant-loop-name l = map pair_view l.pairs.items ≡ map entry_pair l.yielded
