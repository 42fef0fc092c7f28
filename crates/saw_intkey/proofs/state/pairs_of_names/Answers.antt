use Rattle.std.proofs.Common.{◌∙◌, map, sym, ap, arith}
use Rattle.std.proofs.lemmas.Iterator.Adapters.{YieldsList-from_vec}
use Rattle.std.proofs.lemmas.Iterator.Consumers.{YieldsList-end}
use Rattle.std.proofs.lemmas.List.{map-id}
use Rattle.saw_cbor.specs.View.{pairs_of}
use Rattle.saw_intkey.proofs.Kept.{entry_pair, pairs_of-entries}
use Rattle.saw_intkey.proofs.state.pairs_of_names.Goals as goal

pub returns : goal.returns
returns c =
    let l = c.loop-name in
    let gives = c.into_iter-name-iterator.ensures.into_iter_gives in
    let all = YieldsList-end (YieldsList-from_vec {s = c.into_iter-name-iterator.result} c.args.names.items gives.0
    (gives.1 ∙ omega (arith, c.args.names.ok.0))) l.yielded l.name-iterator l.yielded_by c.next.result c.next.new.self c.in-None.is c.next.ensures.steps in
    ap pairs_of (l.invariant ∙ ap (map entry_pair) (sym (map-id l.yielded) ∙ all.0)) ∙ pairs_of-entries c.args.names.items
