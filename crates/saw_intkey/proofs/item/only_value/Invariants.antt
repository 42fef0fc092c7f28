use Rattle.std.proofs.Common.{◌≡◌, ◌++◌, drop, option_map}
use Rattle.std.specs.Option.{option_to_list}
use Rattle.saw_cbor.specs.View.{view, pairs_view}
use Rattle.saw_intkey.specs.Payloads.{values_of}
use Rattle.saw_intkey.proofs.item.only_value.Given as goal

abbrev pub invariant-loop-pair : goal.invariant-loop-pair
invariant-loop-pair l = option_to_list (option_map (λ item. view item.now) l.found) ++ values_of l.key (pairs_view (drop l.pair-index l.pairs))
    ≡ values_of l.key (pairs_view l.pairs)
