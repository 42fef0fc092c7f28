use Rattle.std.proofs.Common.{List, ℕ}
use Rattle.saw_address.specs.Prefixes.{covers}
use Rattle.saw_predtree.specs.Places.{readers_at, writer_at}
use Rattle.saw_predtree.proofs.Searching.{gathers-above, gathers-both, gathers-long}
use Rattle.saw_predtree.proofs.search.gather.Goals as goal

pub returns-then-as_slice-ge35 : goal.returns-then-as_slice-ge35
returns-then-as_slice-ge35 c = λ marked.
    gathers-long c.args.usage c.args.places.now c.args.lengths.now c.args.key.now c.args.found.now.items c.gather_above.new.found.items
    (rw c.as_slice.ensures.bytes at c.if-as_slice-ge35.true) marked
    (gathers-above c.args.usage c.args.places.now c.args.key.now c.args.found.now.items c.gather_above.new.found.items (c.in_ok-gather_above.ensures marked))

pub returns : goal.returns
returns c = λ marked.
    let key = c.args.key.now in
    let usage = c.args.usage in
    let places = c.args.places.now in
    let old = c.args.found.now.items in
    let mid = c.gather_above.new.found.items in
    gathers-both usage (writer_at places) (readers_at places) (λ (at : List ℕ). covers at key) (λ (at : List ℕ). covers key at) old mid c.gather_below.new.found.items
    (gathers-above usage places key old mid (c.in_ok-gather_above.ensures marked)) c.in_ok-gather_below.ensures
